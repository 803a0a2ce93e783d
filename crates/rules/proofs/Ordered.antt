-- Reports in transaction order: by insertion, some before others, and those of what falls in two prunes.
-- Assumes nothing.
use Prim.Native.Nat.{ℕ, suc, ◌+◌, ◌<◌}
use mathlib.Core.Path.{◌≡◌, refl, sym, ap, ◌∙◌}
use mathlib.Core.Bool.{Bool, true, false, cond, not, false≢true}
use mathlib.Core.List.{List, [], ◌∷◌, ◌++◌, map}
use native.Mathlib.Omega.{arith}
use lib.ListN.{length}
use lib.Dec.{leb}
use borrow.Author.Tests.{leb-true, leb-false, le-leb, lt-leb}
use Rattle.lists.specs.Lists.{keep, Above, Ascending}
use Rattle.lists.proofs.Order.{above_keep, ascending-keep, above_map, ascending-map}
use Rattle.rules.specs.Plain.{Entry, Plain, transaction_of}
use Rattle.rules.specs.Prune.{Report, report_of, rule_of, is_reported, insert, insert_all, in_order}

abbrev pub reported : Report → ℕ
reported r = r.transaction

pub insert-below : (r : Report) (l : List Report) → Above reported r.transaction l → insert r l ≡ r ∷ l
insert-below r [] a = refl
insert-below r (s ∷ l) a = rw (le-leb r.transaction s.transaction (omega arith))

pub insert_all-below : (r : Report) (xs l : List Report) → Above reported r.transaction xs → insert_all xs (r ∷ l) ≡ r ∷ insert_all xs l
insert_all-below r [] l a = refl
insert_all-below r (x ∷ xs) l a = rw (insert_all-below r xs l a.1, lt-leb x.transaction r.transaction a.0)

pub insert_all-append : (xs ys l : List Report) → insert_all (xs ++ ys) l ≡ insert_all xs (insert_all ys l)
insert_all-append [] ys l = refl
insert_all-append (x ∷ xs) ys l = ap (insert x) (insert_all-append xs ys l)

pub in_order_alone : (l : List Report) → Ascending reported l → in_order l ≡ l
in_order_alone [] a = refl
in_order_alone (r ∷ l) a = rw (in_order_alone l a.1) (insert-below r l a.0)

length-insert : (r : Report) (l : List Report) → length (insert r l) ≡ suc (length l)
length-insert r [] = refl
length-insert r (s ∷ l) = go (length-insert r l) (leb r.transaction s.transaction)
  where
    go : length (insert r l) ≡ suc (length l) → (b : Bool) → length (cond b (r ∷ s ∷ l) (s ∷ insert r l)) ≡ suc (suc (length l))
    go ih true = refl
    go ih false = ap suc ih

pub length-insert_all : (xs l : List Report) → length (insert_all xs l) ≡ length xs + length l
length-insert_all [] l = omega arith
length-insert_all (x ∷ xs) l = omega (arith, length-insert x (insert_all xs l), length-insert_all xs l)

-- Reports put in order before others, and then with them, are put in order once.
insert_swap : (a b : Report) → a.transaction < b.transaction → (l : List Report) → insert a (insert b l) ≡ insert b (insert a l)
insert_swap a b h [] = rw (le-leb a.transaction b.transaction (omega arith), lt-leb b.transaction a.transaction h)
insert_swap a b h (s ∷ l) = go (leb a.transaction s.transaction) refl (leb b.transaction s.transaction) refl (insert_swap a b h l)
  where
    ab : leb a.transaction b.transaction ≡ true
    ab = le-leb a.transaction b.transaction (omega arith)

    ba : leb b.transaction a.transaction ≡ false
    ba = lt-leb b.transaction a.transaction h

    go : (x : Bool) → leb a.transaction s.transaction ≡ x → (y : Bool) → leb b.transaction s.transaction ≡ y → insert a (insert b l) ≡ insert b (insert a l) →
        insert a (insert b (s ∷ l)) ≡ insert b (insert a (s ∷ l))
    go true e true f ih = simp (e, f, ab, ba)
    go true e false f ih = simp (e, f, ba)
    go false e true f ih =
        absurd (omega (arith, leb-false a.transaction s.transaction e, leb-true b.transaction s.transaction f))
    go false e false f ih = simp (e, f) (ap (λ m. s ∷ m) ih)

insert_all-insert : (r : Report) (l m : List Report) → insert_all (insert r l) m ≡ insert r (insert_all l m)
insert_all-insert r [] m = refl
insert_all-insert r (s ∷ l) m = go (leb r.transaction s.transaction) refl (insert_all-insert r l m)
  where
    go : (x : Bool) → leb r.transaction s.transaction ≡ x → insert_all (insert r l) m ≡ insert r (insert_all l m) →
        insert_all (cond x (r ∷ s ∷ l) (s ∷ insert r l)) m ≡ insert r (insert s (insert_all l m))
    go true e ih = refl
    go false e ih = ap (insert s) ih ∙ insert_swap s r (leb-false r.transaction s.transaction e) (insert_all l m)

insert_all-in_order : (l m : List Report) → insert_all (in_order l) m ≡ insert_all l m
insert_all-in_order [] m = refl
insert_all-in_order (r ∷ l) m = insert_all-insert r (in_order l) m ∙ ap (insert r) (insert_all-in_order l m)

pub in_order_first : (l m : List Report) → in_order (l ++ m) ≡ in_order (in_order l ++ m)
in_order_first l m = insert_all-append l m [] ∙ sym (insert_all-in_order l (in_order m)) ∙ sym (insert_all-append (in_order l) m [])

-- The reports of what falls first, put in order with those of what falls of the rest, are the reports of all that falls.
module _ (local : ℕ) (c : Entry → Bool) where
  -- the reports of those that do not pass the test, of the kind that is told
  abbrev pub told : (Entry → Bool) → List Entry → List Report
  told q l = map (report_of local) (keep c (keep (λ e. not (q e)) l))

  pub above_told : (k : ℕ) (q : Entry → Bool) (l : List Entry) → Above transaction_of k l → Above reported k (told q l)
  above_told k q l a =
      let f : List Entry = keep (λ e. not (q e)) l in
      above_map transaction_of reported (report_of local) (λ e. refl) k (keep c f)
      (above_keep transaction_of c k f (above_keep transaction_of (λ e. not (q e)) k l a))

  pub ascending-told : (q : Entry → Bool) (l : List Entry) → Ascending transaction_of l → Ascending reported (told q l)
  ascending-told q l a =
      let f : List Entry = keep (λ e. not (q e)) l in
      ascending-map transaction_of reported (report_of local) (λ e. refl) (keep c f)
      (ascending-keep transaction_of c f (ascending-keep transaction_of (λ e. not (q e)) l a))

  pub told_again : (p q : Entry → Bool) → ((e : Entry) → q e ≡ true → p e ≡ true) → (l : List Entry) → Ascending transaction_of l →
      insert_all (told p l) (told q (keep p l)) ≡ told q l
  told_again p q imp [] a = refl
  told_again p q imp (e ∷ l) a = go (told_again p q imp l a.1) (p e) (q e) (c e) refl refl refl
    where
      r : Report
      r = report_of local e

      go : insert_all (told p l) (told q (keep p l)) ≡ told q l → (x y z : Bool) → p e ≡ x → q e ≡ y → c e ≡ z →
          insert_all (told p (e ∷ l)) (told q (keep p (e ∷ l))) ≡ told q (e ∷ l)
      go ih true true z f g h = simp (f, g) ih
      go ih true false true f g h =
          simp (f, g, h)
          (insert_all-below r (told p l) (told q (keep p l)) (above_told (transaction_of e) p l a.0) ∙ ap (λ rs. r ∷ rs) ih)
      go ih true false false f g h = simp (f, g, h) ih
      go ih false true z f g h = absurd (false≢true (sym f ∙ imp e g))
      go ih false false true f g h = simp (f, g, h, ih) (insert-below r (told q l) (above_told (transaction_of e) q l a.0))
      go ih false false false f g h = simp (f, g, h) ih

-- whether an entry's fall is told
abbrev pub told? : Plain → Entry → Bool
told? p e = is_reported (rule_of p.local e)
