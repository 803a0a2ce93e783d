-- What a line's call left, from what `dispatch` says of the call that was made on the list filled anew.
-- Assumes nothing.
use Prim.Native.Nat.{ℕ, zero, suc, ◌-◌, max}
use mathlib.Core.Path.{◌≡◌, refl, sym, ap, ◌∙◌}
use mathlib.Core.Bool.{Bool, true, false}
use mathlib.Core.List.{List}
use native.Mathlib.Omega.{arith}
use lib.Dec.{leb}
use lib.ListN.{length, replicate, length-map}
use borrow.Author.Tests.{leb-true, leb-false}
use Rattle.std.proofs.lemmas.Simd.{splat_is_map}
use Rattle.std.specs.Prelude.{Result}
use Rattle.rules.specs.Readings.{read}
use Rattle.types.specs.declared.refusal.Refusal.{Refusal}
use Rattle.ledger.specs.declared.Ledger.{Ledger}
use Rattle.ledger.specs.Contents.{contents, Held}
use Rattle.ledger.specs.Meets.{saying}
use Rattle.readings.specs.Reads.{Reads}
use Rattle.dispatch.specs.Changing.{Turned}
use Rattle.dispatch.specs.Reading.{reading_of}
use Rattle.script.specs.declared.line.Call as script
use Rattle.replay.specs.Lines.{turns_of, fill_word, filled, Reply, call_in, Changed, Asked, Did}

-- once at least
once_at_least : (times : ℕ) → max times 1 ≡ turns_of times
once_at_least zero = refl
once_at_least (suc n) = omega arith

-- filled by std
filled_anew : (was list : List ℕ) → list ≡ replicate (length was) fill_word → list ≡ filled was
filled_anew was list e = e ∙ splat_is_map was (length was) fill_word refl

pub changed : (code : ℕ) (words : List ℕ) (times turns : ℕ) (l : Ledger) (was list now : List ℕ) (reply : Reply) (r : Ledger) → turns ≡ max times 1 →
    list ≡ replicate (length was) fill_word → Turned turns fill_word (call_in code words (length list)) l list now (saying reply r) →
    Changed code words times l was now reply r
changed code words times turns l was list now reply r t f turned =
    let e : list ≡ filled was = filled_anew was list f in
    let n : length list ≡ length was = ap length e ∙ length-map was (λ w. fill_word) in
    rw (t ∙ once_at_least times, n, e) at turned

-- the ledger that is handed back is in order
pub changed_held : (code : ℕ) (words : List ℕ) (times : ℕ) (l : Ledger) (was now : List ℕ) (reply : Reply) (r : Ledger) → Changed code words times l was now reply r → Held r
changed_held code words zero l was now reply r c = c.held
changed_held code words (suc n) l was now reply r c = c.held

-- one turn of a reading; the list may have been filled and read into before
pub asked : (code kind : ℕ) (words : List ℕ) (l : Ledger) (was before list now : List ℕ) (r : Result ℕ Refusal) → kind ≡ code - 16 → length before ≡ length was →
    list ≡ replicate (length before) fill_word → Reads (read (reading_of kind words (length list)) (contents l)) list now r →
    Asked code words l was now r
asked code kind words l was before list now r k s f reads =
    let e : list ≡ filled was = filled_anew was list (f ∙ ap (λ n. replicate n fill_word) s) in
    let n : length list ≡ length was = ap length e ∙ length-map was (λ w. fill_word) in
    rw (k, n, e) at reads

-- a line leaves the ledger in order
pub did_held : (call : script.Call) (numbers : List ℕ) (times : ℕ) (l : Ledger) (was now : List ℕ) (reply : Reply) (r : Ledger) → Held l → Did call numbers times l was now reply r → Held r
did_held call numbers times l was now reply r h d = pick (leb call.code.place 2) (leb call.code.place 16) refl refl
  where
    pick : (a b : Bool) → a ≡ leb call.code.place 2 → b ≡ leb call.code.place 16 → Held r
    pick true b e f = (d.made.renewed (leb-true _ _ (sym e))).held
    pick false true e f = changed_held _ _ _ _ _ _ _ _ (d.made.changed (leb-false _ _ (sym e)) (leb-true _ _ (sym f)))
    pick false false e f = rw (d.made.stays (leb-false _ _ (sym f))) h
