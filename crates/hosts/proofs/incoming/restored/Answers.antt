-- The words that are read are those of the bytes, or none.
use Rattle.std.proofs.Common.{ℕ, ◌≡◌, ◌*◌, ◌++◌, [], arith, ap, ◌∙◌, length, take, drop, replicate}
use mathlib.Core.Path.{subst}
use lib.Seq.{take_at, length-take-le}
use Rattle.rules.specs.Widths.{snapshot_room}
use Rattle.rules.specs.Snapshot.{restoring}
use Rattle.ledger.specs.Meets.{Meets}
use Rattle.word_bytes.specs.Bytes.{words_in}
use Rattle.hosts.specs.Hosts.{words_read}
use Rattle.hosts.proofs.Comes.{words_few, restored_same}
use Rattle.hosts.proofs.incoming.restored.Goals as goal

pub returns : goal.returns
returns c =
    let bytes = c.args.snapshot.now in
    let n = c.words_read-n.result in
    let few = words_few (length bytes) in
    let size : length c.read_words.new.words ≡ n =
    c.read_words.auto.words ∙ length-take-le n _ (omega (arith, c.words_read-n.ensures, few.0)) in
    let front : take n (c.read_words.new.words ++ drop n (replicate {A = ℕ} snapshot_room 0)) ≡ words_in (take (8 * words_read (length bytes)) bytes) =
    take_at c.read_words.new.words _ n size ∙ c.read_words.ensures ∙ ap (λ k. words_in (take (8 * k) bytes)) c.words_read-n.ensures in
    subst (λ o. Meets o [] [] c.restore.result) (ap restoring front ∙ restored_same bytes) c.restore.ensures
