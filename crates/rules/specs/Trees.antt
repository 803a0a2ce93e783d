-- Trees on closed examples, both sides of each edge: marks taken and refused, their leaves, the leaf of a route, counterparts over a tree.
use Rattle.std.specs.Prelude.{ℕ, zero, suc, ◌+◌, ◌-◌, ◌^◌, ◌≡◌, refl, List, [], ◌∷◌, ◌++◌, map, replicate}
use Rattle.lists.specs.Lists.{concat_map}
use Rattle.rules.specs.Numbers.{depth, owns}
use Rattle.rules.specs.Plain.{Plain, empty}
use Rattle.rules.specs.Words.{admission_terms, admission_formed, admission_timed, admission_placed}
use Rattle.rules.specs.Entries.{admitted}
use Rattle.rules.specs.Outcome.{said}
use Rattle.rules.specs.Calls.{admission, terminal, run, after_admission, after_terminal}
use Rattle.rules.specs.Tree.{Tree, leaf, split, marks_of, tree_refusal, tree_of}
use Rattle.rules.specs.Uniform.{uniform}
use Rattle.rules.specs.Readings.{Reading, leaf_for_route, list_leaves, list_counterparts_by_tree, list_counterparts, read, counterparts}
use Rattle.rules.specs.Instances.{Row}

-- a split at each depth down to n - 1 to the right, and to the left: leaves at depth n
abbrev to_the_right : ℕ → Tree
to_the_right zero = leaf
to_the_right (suc n) = split leaf (to_the_right n)

abbrev to_the_left : ℕ → Tree
to_the_left zero = leaf
to_the_left (suc n) = split (to_the_left n) leaf

abbrev fresh : Plain
fresh = empty 4 100 50 200

-- a whole entry over three routes, of which local owns the first, and departures of shards 3 and 5
abbrev reaching : Plain
reaching =
    run
    (admission (3 ∷ 0 ∷ 0 ∷ 9 ∷ 1000 ∷ 2000 ∷ 10 ∷ 77 ∷ 0 ∷ 0 ∷ 2 ^ 62 ∷ (2 ^ 63 + 2 ^ 62) ∷ []) ∷ terminal 3 11 0 0 ∷ terminal 5 11 0 0 ∷ [])
    fresh

-- what is said of marks, of the leaves of a tree, of a tree's leaf for each of some routes, and of counterparts
abbrev taken : List ℕ → List ℕ
taken marks = tree_refusal marks ∷ []

abbrev leaves_said : ℕ → List ℕ → List ℕ
leaves_said room marks = said (read (list_leaves marks room) fresh)

abbrev leaf_said : List ℕ → ℕ → List ℕ
leaf_said marks route = said (read (leaf_for_route route marks) fresh)

abbrev leaves_for : List ℕ → List ℕ → List ℕ
leaves_for marks routes = concat_map (leaf_said marks) routes

abbrev reached : Reading → List ℕ
reached r = said (read r reaching)

abbrev pub splitting : List Row
splitting =
    record { name = "one leaf: the root, which has every route"; given = leaves_said 1 (0 ∷ []) ++ leaves_for (0 ∷ []) (0 ∷ (2 ^ 64 - 1) ∷ []); stated = 0 ∷ 1 ∷ 1 ∷ 0 ∷ 1 ∷ 0 ∷ 1 ∷ [] }
    ∷ record { name = "a right half split: 2, 6, 7"; given = leaves_said 3 (1 ∷ 0 ∷ 1 ∷ 0 ∷ 0 ∷ []); stated = 0 ∷ 3 ∷ 2 ∷ 6 ∷ 7 ∷ [] }
    ∷ record {
      name = "its routes, at both ends of each leaf";
      given = leaves_for (1 ∷ 0 ∷ 1 ∷ 0 ∷ 0 ∷ []) (0 ∷ (2 ^ 63 - 1) ∷ 2 ^ 63 ∷ (2 ^ 63 + 2 ^ 62 - 1) ∷ (2 ^ 63 + 2 ^ 62) ∷ (2 ^ 64 - 1) ∷ []);
      stated = 0 ∷ 2 ∷ 0 ∷ 2 ∷ 0 ∷ 6 ∷ 0 ∷ 6 ∷ 0 ∷ 7 ∷ 0 ∷ 7 ∷ [];
    }
    ∷ record { name = "a left half split: 4, 5, 3"; given = leaves_said 3 (1 ∷ 1 ∷ 0 ∷ 0 ∷ 0 ∷ []); stated = 0 ∷ 3 ∷ 4 ∷ 5 ∷ 3 ∷ [] }
    ∷ record { name = "uniform, depth 2: 4 to 7, and 5 for the route 2^62"; given = leaves_said 4 (marks_of (uniform 2)) ++ leaf_said (marks_of (uniform 2)) (2 ^ 62); stated = 0 ∷ 4 ∷ 4 ∷ 5 ∷ 6 ∷ 7 ∷ 0 ∷ 5 ∷ [] }
    ∷ record {
      name = "marks that end early";
      given = taken [] ++ (taken (1 ∷ []) ++ (taken (1 ∷ 0 ∷ []) ++ taken (1 ∷ 0 ∷ 1 ∷ 0 ∷ [])));
      stated = 15 ∷ 15 ∷ 15 ∷ 15 ∷ [];
    }
    ∷ record { name = "marks that go on"; given = taken (0 ∷ 0 ∷ []) ++ taken (1 ∷ 0 ∷ 0 ∷ 7 ∷ []); stated = 15 ∷ 15 ∷ [] }
    ∷ record { name = "another value"; given = taken (2 ∷ []) ++ taken (1 ∷ 0 ∷ (2 ^ 64 - 1) ∷ []); stated = 15 ∷ 15 ∷ [] }
    ∷ record {
      name = "leaves at depth 16, on the right and on the left";
      given = leaf_said (marks_of (to_the_right 16)) (2 ^ 64 - 1) ++ leaf_said (marks_of (to_the_left 16)) 0;
      stated = 0 ∷ (2 ^ 17 - 1) ∷ 0 ∷ 2 ^ 16 ∷ [];
    }
    ∷ record { name = "a split there"; given = taken (marks_of (to_the_right 17)) ++ taken (marks_of (to_the_left 17)); stated = 16 ∷ 16 ∷ [] }
    ∷ record { name = "63 marks, a tree and none"; given = taken (marks_of (uniform 5)) ++ taken (replicate 63 0); stated = 0 ∷ 15 ∷ [] }
    ∷ record { name = "64 marks, of which the first is another value"; given = taken (2 ∷ replicate 63 0); stated = 16 ∷ [] }
    ∷ record {
      name = "the first breach from the left: a value ahead of a split at depth 16, and behind it; such a split and an early end";
      given = taken (1 ∷ 2 ∷ replicate 17 1) ++ (taken (replicate 17 1 ++ (2 ∷ [])) ++ taken (replicate 17 1));
      stated = 15 ∷ 16 ∷ 16 ∷ [];
    }
    ∷ record {
      name = "counterparts: the leaves of the remote routes and the departed shards; by depth 2 another leaf";
      given = reached (list_counterparts_by_tree 9 (1 ∷ 0 ∷ 1 ∷ 0 ∷ 0 ∷ []) 4) ++ reached (list_counterparts 9 2 4);
      stated = 0 ∷ 4 ∷ 2 ∷ 3 ∷ 5 ∷ 7 ∷ 0 ∷ 3 ∷ 3 ∷ 5 ∷ 7 ∷ [];
    }
    ∷ record {
      name = "9 last; a transaction that is not owed has none";
      given =
          leaves_said 2 (1 ∷ 0 ∷ 1 ∷ 0 ∷ 0 ∷ []) ++ (leaves_said 0 (1 ∷ []) ++ (reached (list_counterparts_by_tree 9 (0 ∷ []) 2)
          ++ (reached (list_counterparts_by_tree 9 [] 2) ++ (reached (list_counterparts_by_tree 8 (0 ∷ []) 0) ++ reached (list_counterparts_by_tree 8 (2 ∷ []) 0)))));
      stated = 9 ∷ 15 ∷ 9 ∷ 15 ∷ 0 ∷ 0 ∷ 15 ∷ [];
    }
    ∷ []

pub trees_hold : map (λ (r : Row). r.given) splitting ≡ map (λ (r : Row). r.stated) splitting
unfolding depth owns tree_refusal tree_of counterparts admission_terms admission_formed admission_timed admission_placed admitted after_admission after_terminal
trees_hold = refl
