-- Words written to the front of a list: behind others, two at a time, and through a part of the list that is lent on.
-- Assumes nothing.
use Prim.Native.Nat.{ℕ, suc, ◌+◌, ◌-◌, ◌≤◌}
use mathlib.Core.Path.{◌≡◌, sym, ap, ap₂, ◌∙◌}
use mathlib.Core.List.{List, [], ◌∷◌, ◌++◌, append_assoc, append-nil}
use native.Mathlib.Omega.{arith}
use lib.ListN.{length, take, drop, set, length-drop, length-append, take-append-drop}
use lib.Seq.{sets, take_all, drop-drop, take-append_seam, drop-append_seam, drop-append-le}
use Rattle.lists.proofs.Listing.{sets_append, sets_front}
use Rattle.lists.proofs.Cuts.{rest-none}
use Rattle.ledger.specs.Meets.{written}

-- behind what was written
pub behind : (front ws lent list : List ℕ) (at : ℕ) → list ≡ written front lent → at ≡ length front →
    take at list ++ written ws (drop at list) ≡ written (front ++ ws) lent
behind front ws lent list at e n =
    let rest : List ℕ = drop (length front) lent in
    let a : take at list ≡ front = rw (e, n) (take-append_seam front rest) in
    let b : drop at list ≡ rest = rw (e, n) (drop-append_seam front rest) in
    let joined : front ++ (ws ++ drop (length ws) rest) ≡ (front ++ ws) ++ drop (length front + length ws) lent =
    sym (append_assoc front ws (drop (length ws) rest)) ∙ ap (λ l. (front ++ ws) ++ l) (drop-drop (length ws) (length front) lent) in
    ap₂ (λ l m. l ++ written ws m) a b ∙ joined ∙ ap (λ k. (front ++ ws) ++ drop k lent) (sym (length-append front ws))

-- as it is where the rest of a list is lent on
pub lent-rest : (front ws lent list after : List ℕ) (at : ℕ) → list ≡ written front lent → at ≡ length front →
    after ≡ written ws (take (length list - at) (drop at list)) →
    take at list ++ (after ++ drop (length list - at) (drop at list)) ≡ written (front ++ ws) lent
lent-rest front ws lent list after at e n w =
    let rest : List ℕ = drop at list in
    let whole : take (length list - at) rest ≡ rest = take_all (length list - at) rest (simp length-drop (omega arith)) in
    let none : drop (length list - at) rest ≡ [] = rest-none rest (length list - at) (simp length-drop (omega arith)) in
    let same : after ++ drop (length list - at) rest ≡ written ws rest = ap₂ ◌++◌ (w ∙ ap (written ws) whole) none ∙ append-nil (written ws rest) in
    ap (λ l. take at list ++ l) same ∙ behind front ws lent list at e n

-- two numbers behind what was written
pub two_behind : (front lent list : List ℕ) (at a b : ℕ) → list ≡ written front lent → at ≡ length front → at + 2 ≤ length lent →
    set (set list at a) (at + 1) b ≡ written (front ++ (a ∷ b ∷ [])) lent
two_behind front lent list at a b e n h =
    let both : List ℕ = a ∷ b ∷ [] in
    let was : list ≡ sets lent 0 front = e ∙ sym (sets_front lent front (omega (arith, n))) in
    let room : length (front ++ both) ≤ length lent = rw (length-append front both) (omega (arith, n)) in
    let next : at + 1 ≡ suc at = omega arith in
    let from : at ≡ 0 + length front = omega (arith, n) in
    ap (λ i. set (set list at a) i b) next ∙ ap₂ (λ l i. sets l i both) was from ∙ sets_append lent 0 front both ∙ sets_front lent (front ++ both) room

-- through the front of the list
pub lent-front : (ws list after : List ℕ) (room : ℕ) → after ≡ written ws (take room list) → length after ≡ length (take room list) →
    after ++ drop room list ≡ written ws list
lent-front ws list after room w same =
    let part : List ℕ = take room list in
    let fits : length ws ≤ length part = omega (arith, same, ap length w, length-append ws (drop (length ws) part), length-drop (length ws) part) in
    ap (λ l. l ++ drop room list) w ∙ append_assoc ws (drop (length ws) part) (drop room list)
    ∙ ap (λ l. ws ++ l) (sym (drop-append-le (length ws) part (drop room list) fits) ∙ ap (drop (length ws)) (take-append-drop room list))
