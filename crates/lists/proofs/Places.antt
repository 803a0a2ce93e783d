-- A test of the numbers from i on, as a chain over a range makes it, is a test of a list's items at these places.
-- Assumes nothing.
use Rattle.std.proofs.Common.{◌≡◌, ℕ, suc, ◌+◌, ◌<◌, Bool, List, [], ◌∷◌, map, get_or, length, refl, sym, ap, ◌∙◌, arith}
use Rattle.std.specs.List.{range_with_len, list_any, list_all}
use Rattle.std.proofs.lemmas.List.Folds.{list_all-map}
use Rattle.lists.specs.Lists.{any, all}
use Rattle.lists.proofs.Keep.{any-map}

module _ {A : Type 0} (t : ℕ → Bool) (p : A → Bool) (d : A) where
  abbrev pub Tests : List A → ℕ → Type 0
  Tests l i = (j k : ℕ) → j ≡ i + k → k < length l → t j ≡ p (get_or l k d)

  places : (l : List A) (i : ℕ) → Tests l i → map t (range_with_len i (length l)) ≡ map p l
  places [] i h = refl
  places (x ∷ l) i h =
      ap (λ b. b ∷ map t (range_with_len (i + 1) (length l))) (h i 0 (omega arith) (omega arith))
      ∙ ap (λ m. p x ∷ m) (places l (i + 1) (λ j k e q. h j (suc k) (omega arith) (omega arith)))

  pub any_places : (l : List A) → Tests l 0 → list_any t (range_with_len 0 (length l)) ≡ any p l
  any_places l h =
      sym (any-map t (λ b. b) (range_with_len 0 (length l))) ∙ ap (any (λ b. b)) (places l 0 h) ∙ any-map p (λ b. b) l

  pub all_places : (l : List A) → Tests l 0 → list_all t (range_with_len 0 (length l)) ≡ all p l
  all_places l h =
      sym (list_all-map (λ b. b) t (range_with_len 0 (length l))) ∙ ap (all (λ b. b)) (places l 0 h) ∙ list_all-map (λ b. b) p l
