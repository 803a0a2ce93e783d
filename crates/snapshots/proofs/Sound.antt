-- What makes an entry's words sound, in the order in which they are read, and the entry that is read.
-- Assumes nothing.
use Prim.Native.Nat.{ℕ, suc}
use mathlib.Core.Path.{◌≡◌, refl, sym, ap, ◌∙◌, subst}
use mathlib.Core.Bool.{Bool, true, false, cond, not, ◌&&◌, true≢false}
use mathlib.Core.List.{List, [], ◌∷◌}
use native.Mathlib.Omega.{arith}
use lib.Dec.{eqb, leb}
use borrow.Author.Tests.{eqb-true}
use Rattle.lists.specs.Lists.{all, all_of, filled, ascending}
use Rattle.lists.proofs.Tests.{and_true, and_false, and_left, and_right, cond_same}
use Rattle.rules.specs.Numbers.{is_shard}
use Rattle.rules.specs.Plain as plain
use Rattle.rules.specs.Plain.{Part, whole, leg, core, remainder, Terms, Entry, absence_key}
use Rattle.rules.specs.Words.{word, decomposed, admission_terms, admission_formed, admission_timed, admission_placed}
use Rattle.rules.specs.Entries.{whole_terms, admitted}
use Rattle.rules.specs.Snapshot.{admission_of, history_of, part_fits, marks_fit, entry_in, entry_sound}
use Rattle.entry.specs.declared.Entry as declared
use Rattle.rules.specs.Good.{is_departed_by}
use Rattle.rules.specs.Outcome.{◌gives◌then◌}
use Rattle.entry.specs.Entry.{plain_part, plain_entry, Means}
use Rattle.std.specs.Prelude.{Result, Ok, Err, IfOk, Some, None, is_some}
use Rattle.std.specs.Option.{MatchOption}
use Rattle.std.specs.Result.{result_ok}
use Rattle.types.specs.declared.refusal.Refusal.{Refusal}
use Rattle.types.specs.Refusals.{refused_in}
use Rattle.ledger.proofs.Meeting.{numbered}
use Rattle.calls.specs.Refusals.{words_refusal}
use Rattle.snapshots.specs.declared.history.History.{History}
use Rattle.snapshots.specs.History.{history_sound, Tells, with_history}

-- the tests of an entry in the order in which they are made
reordered : (a b c d e f g h i j k : Bool) →
    all_of (a ∷ b ∷ c ∷ d ∷ e ∷ f ∷ g ∷ h ∷ i ∷ j ∷ k ∷ []) ≡ all_of (a ∷ b ∷ c ∷ []) && (all_of (d ∷ f ∷ g ∷ h ∷ i ∷ j ∷ []) && (e && k))
reordered false b c d e f g h i j k = refl
reordered true false c d e f g h i j k = refl
reordered true true false d e f g h i j k = refl
reordered true true true false e f g h i j k = refl
reordered true true true true false f g h i j k = sym (and_false (all_of (f ∷ g ∷ h ∷ i ∷ j ∷ [])))
reordered true true true true true false g h i j k = refl
reordered true true true true true true false h i j k = refl
reordered true true true true true true true false i j k = refl
reordered true true true true true true true true false j k = refl
reordered true true true true true true true true true false k = refl
reordered true true true true true true true true true true k = and_true k

-- words that the table of an admission lets pass
module _ (ws : List ℕ) where
  abbrev passes : Bool
  passes = all_of (admission_formed ws ∷ admission_timed ws ∷ admission_placed ws ∷ [])

  pub passed : 0 ≡ words_refusal ws → passes ≡ true
  passed e = go (admission_formed ws) (admission_timed ws) (admission_placed ws) e
    where
      go : (a b c : Bool) → 0 ≡ (not a gives 5 then not b gives 3 then not c gives 4 then 0) → all_of (a ∷ b ∷ c ∷ []) ≡ true
      go false b c q = absurd (omega arith)
      go true false c q = absurd (omega arith)
      go true true false q = absurd (omega arith)
      go true true true q = refl

  turned_away : (n : ℕ) → suc n ≡ words_refusal ws → passes ≡ false
  turned_away n e = go (admission_formed ws) (admission_timed ws) (admission_placed ws) e
    where
      go : (a b c : Bool) → suc n ≡ (not a gives 5 then not b gives 3 then not c gives 4 then 0) → all_of (a ∷ b ∷ c ∷ []) ≡ false
      go false b c q = refl
      go true false c q = refl
      go true true false q = refl
      go true true true q = absurd (omega arith)

split_terms : (d : ℕ) (t : Terms) → eqb d 1 ≡ true → cond (eqb d 0) (whole_terms t) t ≡ t
split_terms d t e = rw (eqb-true d 1 e)

-- what the table says, of what is made an option
module _ {A : Type 0} (s : Result A Refusal) (m : ℕ) (e : refused_in s ≡ m) where
  pub refused_by : None ≡ result_ok s → (n : ℕ) × (suc n ≡ m)
  refused_by h = go s e h
    where
      go : (s : Result A Refusal) → refused_in s ≡ m → None ≡ result_ok s → (n : ℕ) × (suc n ≡ m)
      go (Ok x) q h = absurd (true≢false (sym (ap is_some h)))
      go (Err r) q h = ((numbered r).0, sym (numbered r).1 ∙ q)

  pub passed_by : (x : A) → Some x ≡ result_ok s → 0 ≡ m
  passed_by x h = go s e h
    where
      go : (s : Result A Refusal) → refused_in s ≡ m → Some x ≡ result_ok s → 0 ≡ m
      go (Ok y) q h = q
      go (Err r) q h = absurd (true≢false (ap is_some h))

pub value_of : {A : Type 0} (P : A → Type 0) (s : Result A Refusal) (x : A) → Some x ≡ result_ok s → IfOk s P → P x
value_of P (Ok y) x h p = subst (λ o. MatchOption o (Unit {0}) P) (sym h) p
value_of P (Err r) x h p = absurd (true≢false (ap is_some h))

-- of a part that fits the terms are the admission's, and not those of a whole entry that has more
fit_terms : (q : Part) (local d : ℕ) (t : Terms) → part_fits q local d t ≡ true → cond (eqb d 0) (whole_terms t) t ≡ t
fit_terms whole local d t h =
    let none : not (filled t.core_shards) && not (filled t.edges) ≡ true = and_right (eqb d 0) _ h in
    rw (and_left (eqb d 0) _ h) (λ i. record {
      transaction = t.transaction;
      at = t.at;
      end = t.end;
      anchor = t.anchor;
      charge = t.charge;
      routes = t.routes;
      core_shards = (empty t.core_shards (and_left _ _ none)) i;
      edges = (empty t.edges (and_right (not (filled t.core_shards)) _ none)) i;
    })
  where
    empty : {A : Type 0} (l : List A) → not (filled l) ≡ true → [] ≡ l
    empty [] e = refl
    empty (x ∷ l) e = absurd (true≢false (sym e))
fit_terms leg local d t h = split_terms d t (and_left (eqb d 1) _ h)
fit_terms core local d t h = split_terms d t (and_left (eqb d 1) _ h)
fit_terms remainder local d t h = split_terms d t (and_left (eqb d 1) _ h)

module _ (local : ℕ) (ws : List ℕ) where
  abbrev ads : List ℕ
  ads = admission_of ws

  abbrev hs : List ℕ
  hs = history_of ws

  abbrev e : Entry
  e = entry_in ws

  abbrev fits : Bool
  fits = part_fits e.part local (decomposed ads) e.terms

  abbrev marked : Bool
  marked = marks_fit e.part local e.terms e.marks e.returned

  in_order : entry_sound local ws ≡ passes ads && (history_sound hs && (fits && marked))
  unfolding entry_sound history_sound entry_in
  in_order =
      reordered (admission_formed ads) (admission_timed ads) (admission_placed ads) (leb (word 0 hs) 3) fits (leb e.certificate 2)
      (is_departed_by e.departed_by) (leb (word 3 hs) 1) (all (λ (a : plain.Absence). is_shard a.shard) e.absences) (ascending absence_key e.absences) marked

  pub not_admitted : (n : ℕ) → suc n ≡ words_refusal ads → entry_sound local ws ≡ false
  not_admitted n q = in_order ∙ rw (turned_away ads n q)

  pub not_told : history_sound hs ≡ false → entry_sound local ws ≡ false
  not_told h = in_order ∙ rw (h, and_false (passes ads))

  pub not_fit : fits ≡ false → entry_sound local ws ≡ false
  not_fit h = in_order ∙ rw (h, and_false (history_sound hs), and_false (passes ads))

  pub not_marked : marked ≡ false → entry_sound local ws ≡ false
  not_marked h = in_order ∙ rw (h, and_false fits, and_false (history_sound hs), and_false (passes ads))

  pub sound : 0 ≡ words_refusal ads → history_sound hs ≡ true → fits ≡ true → marked ≡ true → entry_sound local ws ≡ true
  sound a b c d = in_order ∙ rw (passed ads a, b, c, d)

  -- the entry that is read
  module _ (h : History) (t : Tells hs h) where
    pub fits-told : part_fits (plain_part h.part) local (decomposed ads) (admission_terms ads) ≡ fits
    unfolding entry_in
    fits-told = rw t.part

    pub put-is : (x y : declared.Entry) → Means (admitted local ads) x → Means (with_history h (plain_entry x)) y → fits ≡ true → plain_entry y ≡ e
    unfolding entry_in admitted
    put-is x y m n f =
        let terms : (plain_entry x).terms ≡ admission_terms ads =
        ap (λ (z : Entry). z.terms) m.plain ∙ cond_same (λ (z : Entry). z.terms) (eqb (decomposed ads) 0) _ _ ∙ fit_terms e.part local (decomposed ads) (admission_terms ads) f in
        n.plain ∙ (λ i. record {
          terms = terms i;
          part = t.part i;
          certificate = t.certificate i;
          departed_by = t.departed_by i;
          absences = t.absences i;
          marks = t.marks i;
          returned = t.returned i;
        })
