-- The words of an item: those of its transaction put down, and then the others copied behind them.
-- Assumes nothing.
use Prim.Native.Nat.{ℕ, suc, ◌+◌, ◌≤◌}
use mathlib.Core.Path.{◌≡◌, refl, sym, ap, ◌∙◌}
use mathlib.Core.List.{List, [], ◌∷◌, ◌++◌}
use native.Mathlib.Numerals.{add-one}
use native.Mathlib.Omega.{arith}
use lib.ListN.{length, take, drop, length-set}
use lib.Seq.{sets, sets-eq}
use borrow.Rule.Slice.PartMut.{put_mid}
use Rattle.std.proofs.lemmas.Slice.{put_mid-paste}
use Rattle.std.proofs.lemmas.List.{append_assoc}
use Rattle.std.proofs.lemmas.List.Edits.{paste_all}

pub words_put : (l m ys : List ℕ) (t n : ℕ) (others : List ℕ) (k : ℕ) → m ≡ sets l n (t ∷ []) → ys ≡ others → n + 1 + length others ≤ length l → k ≡ length others →
    put_mid (n + 1) k m ys ≡ sets l n (t ∷ others)
words_put l m ys t n others k p e b q =
    let size : length m ≡ length l = ap length p ∙ length-set l n t in
    put_mid-paste (n + 1) k m ys others k e refl q
    ∙ paste_all m (n + 1) others k q
    ∙ ap (λ i. take (n + 1) m ++ (others ++ drop (n + 1 + i) m)) q
    ∙ sym (append_assoc (take (n + 1) m) others (drop (n + 1 + length others) m))
    ∙ sym (sets-eq others m (n + 1) (omega (arith, size)))
    ∙ ap (λ i. sets m i others) (add-one n)
    ∙ ap (λ x. sets x (suc n) others) p
