-- The trie's shards of some routes put into a set, one by one.
-- Assumes nothing.
use Prim.Native.Nat.{ℕ, ◌+◌, ◌≤◌, ◌<◌}
use mathlib.Core.Path.{refl, sym, ap, ◌∙◌}
use mathlib.Core.List.{List, ◌∷◌, map}
use native.Mathlib.Omega.{arith}
use lib.ListN.{length, drop, get_or}
use Rattle.lists.specs.Lists.{include, include_all, self}
use Rattle.lists.proofs.Cuts.{rest_more, rest-none}
use Rattle.lists.proofs.Order.{length-include}
use Rattle.types.specs.declared.Shard.{Shard}
use Rattle.shard_lists.specs.declared.set.Set.{Set}
use Rattle.shard_lists.specs.Sets.{front, Holds, BySay, Tries}
use Rattle.shard_lists.proofs.Gather.{Sofar, front_length, put_one, ended}

-- Says is what is said of a route that is asked about: with what any trie that it is gives for the routes still to come, the set is the one wanted.
module _ (Says : ℕ → Shard → Type 0) (far : List ℕ) (s₀ : Set) where
  pub record Tried (i : ℕ) (s : Set) : Type 0 where
    pub few : s.shards.len ≤ s₀.shards.len + i
    pub sofar : (f : ℕ → ℕ) → BySay Says f → Sofar (include_all self (map f far) (front s₀)) (map f (drop i far)) (s₀.shards.len + i) s

  pub none_tried : Tried 0 s₀
  none_tried = record { few = omega arith; sofar = λ f b. record { few = omega arith; same = refl } }

  pub tried : (i : ℕ) (s r : Set) (x : Shard) → i < length far → Says (get_or far i 0) x → Tried i s → Holds (include self x.0 (front s)) r → Tried (i + 1) r
  tried i s r x k a q h =
      record {
        few = omega (arith, q.few, front_length r, front_length s, ap length h.holds, length-include self x.0 (front s));
        sofar = λ f b.
            let next = ap (map f) (rest_more 0 far i k) ∙ ap (λ n. n ∷ map f (drop (i + 1) far)) (sym (b (get_or far i 0) x a)) in
            put_one x.0 (map f (drop i far)) (map f (drop (i + 1) far)) (s₀.shards.len + (i + 1)) r next (omega arith) (q.sofar f b) h;
      }

  pub all_tried : (i : ℕ) (s : Set) → length far ≤ i → Tried i s → Tries Says far (front s₀) s
  all_tried i s k q f b = ended (map f (drop i far)) (ap (map f) (rest-none far i k)) (q.sofar f b)
