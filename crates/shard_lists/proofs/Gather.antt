-- Numbers gathered in a set. A loop that gathers holds a set and what is still to come: put in, that makes the target.
-- Assumes nothing.
use Prim.Native.Nat.{ℕ, ◌+◌, ◌≤◌}
use mathlib.Core.Path.{◌≡◌, sym, ap, ◌∙◌}
use mathlib.Core.List.{List, [], ◌∷◌, ◌++◌}
use native.Mathlib.Omega.{arith}
use lib.ListN.{length}
use Rattle.lists.specs.Lists.{include, include_all, self, set_of}
use Rattle.lists.proofs.Held.{held-length}
use Rattle.lists.proofs.Order.{length-include_all}
use Rattle.shard_lists.specs.declared.set.Set.{Set}
use Rattle.shard_lists.specs.Sets.{front, Holds}
use Rattle.lists.proofs.Sets.{first_put}

pub front_length : (s : Set) → length (front s) ≡ s.shards.len
front_length s = held-length s.shards

-- A loop that gathers.

pub record Sofar (target rest : List ℕ) (most : ℕ) (s : Set) : Type 0 where
  pub few : s.shards.len ≤ most
  pub same : include_all self rest (front s) ≡ target

pub none_yet_lem : (l : List ℕ) (m : ℕ) (s : Set) → Holds [] s → Sofar (set_of l) l m s
none_yet_lem l m s h = record { few = omega (arith, front_length s, ap length h.holds); same = ap (include_all self l) h.holds }

pub ended : {target : List ℕ} {most : ℕ} {s : Set} (rest : List ℕ) → rest ≡ [] → Sofar target rest most s → Holds target s
ended {target} {most} {s} rest e h = record { holds = ap (λ l. include_all self l (front s)) (sym e) ∙ h.same }

pub passed_by : {target : List ℕ} {most : ℕ} {s : Set} (old new : List ℕ) (m : ℕ) → old ≡ new → most ≤ m → Sofar target old most s → Sofar target new m s
passed_by {target} {most} {s} old new m e b h =
    record { few = omega (arith, h.few); same = ap (λ l. include_all self l (front s)) (sym e) ∙ h.same }

pub put_all : {target : List ℕ} {most : ℕ} {s : Set} (a old new : List ℕ) (m : ℕ) (r : Set) → old ≡ a ++ new → most + length a ≤ m →
    Sofar target old most s → Holds (include_all self a (front s)) r → Sofar target new m r
put_all {target} {most} {s} a old new m r e b h p =
    record {
      few = omega (arith, h.few, front_length r, ap length p.holds, length-include_all self a (front s), front_length s);
      same =
          ap (include_all self new) p.holds
          ∙ sym (first_put a new (front s) s.rising)
          ∙ ap (λ l. include_all self l (front s)) (sym e)
          ∙ h.same;
    }

pub put_one : {target : List ℕ} {most : ℕ} {s : Set} (x : ℕ) (old new : List ℕ) (m : ℕ) (r : Set) → old ≡ x ∷ new → most + 1 ≤ m →
    Sofar target old most s → Holds (include self x (front s)) r → Sofar target new m r
put_one x old new m r e b h p = put_all (x ∷ []) old new m r e (omega arith) h p
