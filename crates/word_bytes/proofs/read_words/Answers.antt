-- Every word is read from its own eight bytes, so the list of words is what the bytes are.
use Rattle.std.proofs.Common.{arith}
use Rattle.word_bytes.proofs.Bytes.{all_read}
use Rattle.word_bytes.proofs.read_words.Goals as goal

pub returns : goal.returns
returns c = all_read c.args.bytes.now c.read_u64_into.new.dst (omega (arith, c.requires, c.read_u64_into.auto.dst)) c.read_u64_into.ensures
