-- This project's words for lists beside std's: what a method of the library answers, or leaves of a slice, in our words.
-- Assumes nothing.
use Rattle.std.proofs.Common.{append_assoc, ◌≡◌, ℕ, suc, ◌+◌, ◌-◌, ◌≤◌, ◌<◌, Bool, true, false, cond, List, [], ◌∷◌, ◌++◌, length, take, drop, set, get_or, refl, sym, ap, ◌∙◌, arith, add-one}
use Rattle.std.specs.Prelude.{Some}
use Rattle.std.specs.List.{prefix_len, position_from, sum_by, fold, copy_within}
use Rattle.std.proofs.lemmas.List.{drop-take, length-drop, take_more, take-append-le, take-append-drop}
use Rattle.std.proofs.lemmas.List.Edits.{take-paste, drop-paste, length-paste}
use Rattle.std.proofs.lemmas.List.Sums.{sum_by_from}
use Rattle.std.proofs.Math.Seq.{length-take-le, take-take, take-set-lt, set-append_seam, append_snoc, drop-append_seam, take-add, drop-drop}
use Rattle.lists.specs.Lists.{total}
use Rattle.lists.specs.Arrays.{rank, place, insert_at, remove_at}
use Rattle.lists.proofs.Loops.{fill_hole}

one_more : (b : Bool) (n : ℕ) → cond b (1 + n) 0 ≡ cond b (suc n) 0
one_more true n = omega arith
one_more false n = refl

module _ {A : Type 0} where
  pub rank_is : (p : A → Bool) (l : List A) → prefix_len p l ≡ rank p l
  unfolding rank
  rank_is p [] = refl
  rank_is p (x ∷ l) = ap (λ n. cond (p x) (1 + n) 0) (rank_is p l) ∙ one_more (p x) (rank p l)

  pub place_is : (p : A → Bool) (i : ℕ) (l : List A) → position_from p i l ≡ place p i l
  unfolding place
  place_is p i [] = refl
  place_is p i (x ∷ l) = ap (λ m. cond (p x) (Some i) m) (ap (λ j. position_from p j l) (add-one i) ∙ place_is p (suc i) l)

  pub total_is : (f : A → ℕ) (l : List A) → sum_by f l ≡ total f l
  total_is f [] = refl
  total_is f (x ∷ l) = let z : 0 + f x ≡ f x = omega arith in ap (λ n. fold (λ a y. a + f y) n l) z ∙ sum_by_from f (f x) l ∙ ap (λ n. f x + n) (total_is f l)

  -- those from k on moved up by one, and x put where the first of them stood
  pub put_in : (s : List A) (n k : ℕ) (x : A) → k ≤ n → n < length s → take (n + 1) (set (copy_within s k n (k + 1)) k x) ≡ insert_at k x (take n s)
  put_in s n k x h₁ h₂ =
      let m = n - k in
      let b = copy_within s k n (k + 1) in
      let q : k + 1 + m ≡ n + 1 = omega arith in
      let r : k + m ≡ n = omega arith in
      let moved : take (k + 1 + m) b ≡ take (k + 1) s ++ take m (drop k s) = take-paste s (k + 1) (drop k s) m (omega arith) (omega (arith, length-drop k s)) in
      let front : take (n + 1) b ≡ take (k + 1) s ++ take m (drop k s) = ap (λ j. take j b) (sym q) ∙ moved in
      let one : take (k + 1) s ≡ take k s ++ get_or s k x ∷ [] = take_more s k x (omega arith) in
      let rest : drop k (take (k + m) s) ≡ take m (drop k s) = drop-take k m s in
      let back : drop k (take n s) ≡ take m (drop k s) = rw r at rest in
      let size : length (take k s) ≡ k = length-take-le k s (omega arith) in
      let seam : set (take k s ++ get_or s k x ∷ take m (drop k s)) (length (take k s)) x ≡ take k s ++ x ∷ take m (drop k s) = set-append_seam (take k s) (get_or s k x) (take m (drop k s)) x in
      take-set-lt (n + 1) b k x (omega arith) ∙ ap (λ l. set l k x) (front ∙ ap (λ l. l ++ take m (drop k s)) one ∙ append_snoc (take k s) (get_or s k x) (take m (drop k s)))
      ∙ (rw size at seam)
      ∙ rw (back, take-take k n s h₁)

  -- the same of the whole slice: what stood at n is lost
  pub put_whole : (s : List A) (n k : ℕ) (x : A) → k ≤ n → n < length s → set (copy_within s k n (k + 1)) k x ≡ insert_at k x (remove_at n s)
  put_whole s n k x h₁ h₂ =
      let m = n - k in
      let b = copy_within s k n (k + 1) in
      let f = take (k + 1) s in
      let y = take m (drop k s) ++ drop (k + 1 + m) s in
      let long : length b ≡ length s = length-paste s (k + 1) (drop k s) m (omega arith) (omega (arith, length-drop k s)) in
      let size : length f ≡ k + 1 = length-take-le (k + 1) s (omega arith) in
      let q : k + m ≡ n = omega arith in
      let p : k + 1 + m ≡ suc n = omega arith in
      let e : suc k ≡ length f = omega arith in
      let split : b ≡ f ++ y = append_assoc f (take m (drop k s)) (drop (k + 1 + m) s) in
      let front : take k b ≡ take k s = ap (take k) split ∙ take-append-le k f y (omega arith) ∙ take-take k (k + 1) s (omega arith) in
      let back : drop (suc k) b ≡ y = ap (drop (suc k)) split ∙ ap (λ j. drop j (f ++ y)) e ∙ drop-append_seam f y in
      let joined : take (k + m) s ≡ take k s ++ take m (drop k s) = take-add k m s in
      fill_hole b k x (omega arith)
      ∙ ap (insert_at k x) (ap (λ l. l ++ drop (suc k) b) front ∙ ap (λ l. take k s ++ l) back
      ∙ sym (append_assoc (take k s) (take m (drop k s)) (drop (k + 1 + m) s)) ∙ ap (λ l. l ++ drop (k + 1 + m) s) (sym joined)
      ∙ ap (λ j. take j s ++ drop (k + 1 + m) s) q ∙ ap (λ j. take n s ++ drop j s) p)

  -- those behind k moved down by one
  pub taken_out : (s : List A) (n k : ℕ) → k < n → n ≤ length s → take (n - 1) (copy_within s (k + 1) n k) ≡ remove_at k (take n s)
  taken_out s n k h₁ h₂ =
      let m = n - (k + 1) in
      let q : k + m ≡ n - 1 = omega arith in
      let r : k + 1 + m ≡ n = omega arith in
      let rest : drop (k + 1) (take (k + 1 + m) s) ≡ take m (drop (k + 1) s) = drop-take (k + 1) m s in
      let back : drop (k + 1) (take n s) ≡ take m (drop (k + 1) s) = rw r at rest in
      let moved : take (k + m) (copy_within s (k + 1) n k) ≡ take k s ++ take m (drop (k + 1) s) = take-paste s k (drop (k + 1) s) m (omega arith) (omega (arith, length-drop (k + 1) s)) in
      ap (λ j. take j (copy_within s (k + 1) n k)) (sym q) ∙ moved ∙ sym (ap (λ l. l ++ drop (suc k) (take n s)) (take-take k n s (omega arith)) ∙ ap (λ l. take k s ++ l) (ap (λ j. drop j (take n s)) (sym (add-one k)) ∙ back))

  -- the same of the whole slice, but for what stands at n - 1
  pub taken_whole : (s : List A) (n k : ℕ) → k < n → n ≤ length s → remove_at (n - 1) (copy_within s (k + 1) n k) ≡ remove_at k s
  taken_whole s n k h₁ h₂ =
      let m = n - (k + 1) in
      let b = copy_within s (k + 1) n k in
      let q : k + m ≡ n - 1 = omega arith in
      let r : suc k + m ≡ suc (n - 1) = omega arith in
      let front : take (n - 1) b ≡ take k s ++ take m (drop (k + 1) s) = ap (λ j. take j b) (sym q) ∙ take-paste s k (drop (k + 1) s) m (omega arith) (omega (arith, length-drop (k + 1) s)) in
      let behind : drop (n - 1) b ≡ drop (n - 1) s = ap (λ j. drop j b) (sym q) ∙ drop-paste s k (drop (k + 1) s) m (omega arith) (omega (arith, length-drop (k + 1) s)) ∙ ap (λ j. drop j s) q in
      let back : drop (suc (n - 1)) b ≡ drop (suc (n - 1)) s = ap (λ j. drop j b) (sym (add-one (n - 1))) ∙ sym (drop-drop 1 (n - 1) b) ∙ ap (drop 1) behind ∙ drop-drop 1 (n - 1) s ∙ ap (λ j. drop j s) (add-one (n - 1)) in
      let rest : drop (suc k) s ≡ take m (drop (suc k) s) ++ drop (suc k + m) s = sym (take-append-drop m (drop (suc k) s)) ∙ ap (λ l. take m (drop (suc k) s) ++ l) (drop-drop m (suc k) s) in
      ap (λ l. l ++ drop (suc (n - 1)) b) front ∙ ap (λ l. (take k s ++ take m (drop (k + 1) s)) ++ l) back
      ∙ ap (λ j. (take k s ++ take m (drop j s)) ++ drop (suc (n - 1)) s) (add-one k)
      ∙ append_assoc (take k s) (take m (drop (suc k) s)) (drop (suc (n - 1)) s)
      ∙ ap (λ j. take k s ++ (take m (drop (suc k) s) ++ drop j s)) (sym r)
      ∙ ap (λ l. take k s ++ l) (sym rest)
