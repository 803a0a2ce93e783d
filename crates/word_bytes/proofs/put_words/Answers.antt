-- The bytes written are those of the words one after the other, in front of what stays beyond them.
use Rattle.std.proofs.Common.{◌*◌, ◌++◌, length, drop, ap, ◌∙◌}
use Rattle.word_bytes.proofs.Bytes.{flat}
use Rattle.word_bytes.proofs.put_words.Goals as goal

pub returns : goal.returns
returns c = ap (λ b. b ++ drop (8 * length c.args.words.now) c.args.out.now) (c.write_u64_into.ensures ∙ flat c.args.words.now)
