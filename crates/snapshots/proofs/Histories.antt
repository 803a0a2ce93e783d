-- A history told from its words, and what makes it sound.
-- Assumes nothing.
use Prim.Native.Nat.{ℕ, ◌+◌, ◌*◌, ◌≤◌}
use mathlib.Core.Path.{◌≡◌, refl, sym, ap, ◌∙◌}
use mathlib.Core.Bool.{true, ◌&&◌}
use mathlib.Core.List.{List, [], ◌∷◌, ◌++◌, map}
use native.Mathlib.Omega.{arith}
use native.Mathlib.Numerals.{add-one}
use Rattle.std.proofs.lemmas.List.{map-append}
use lib.Dec.{eqb, leb}
use lib.ListN.{take, drop}
use borrow.Author.Tests.{le-leb}
use lib.Seq.{drop-drop, get_or-drop, get_or-take}
use Rattle.lists.specs.Lists.{all, ascending, rows}
use Rattle.lists.specs.Front.{held}
use Rattle.lists.proofs.Tests.{and_left, and_right}
use Rattle.lists.proofs.Rows.{rows_more}
use Rattle.rules.specs.Numbers.{is_shard}
use Rattle.rules.specs.Plain as plain
use Rattle.rules.specs.Plain.{part_number, absence_key}
use Rattle.rules.specs.Good.{is_departed_by}
use Rattle.rules.specs.Words.{word}
use Rattle.rules.specs.Snapshot.{absence_in, part_named, marks_in}
use Rattle.entry.specs.Entry.{absence, plain_part, plain_absence, certificate_number}
use Rattle.entry.specs.declared.Part as declared
use Rattle.entry.specs.declared.Part.TheVariants.{Whole, Leg, Core, Remainder}
use Rattle.entry.specs.declared.Certificate as declared_c
use Rattle.entry.specs.declared.Certificate.TheVariants.{Missing, ByAbandonment, ByExecution}
use Rattle.snapshots.specs.declared.history.History.{History}
use Rattle.snapshots.specs.History.{history_sound, absences_in, Tells}

-- the words of an absence at a place
pair_at : (ws : List ℕ) (i : ℕ) → absence_in (take 2 (drop (2 * i) (drop 5 ws))) ≡ absence (word (5 + 2 * i) ws) (word (6 + 2 * i) ws)
pair_at ws i =
    let at = drop-drop (2 * i) 5 ws in
    let next : 5 + 2 * i + 1 ≡ 6 + 2 * i = omega arith in
    let here : 5 + 2 * i + 0 ≡ 5 + 2 * i = omega arith in
    λ j. record {
      shard = (ap (λ l. word 0 (take 2 l)) at ∙ get_or-take 2 (drop (5 + 2 * i) ws) 0 0 (omega arith) ∙ get_or-drop (5 + 2 * i) ws 0 0 ∙ ap (λ k. word k ws) here) j;
      key = (ap (λ l. word 1 (take 2 l)) at ∙ get_or-take 2 (drop (5 + 2 * i) ws) 1 0 (omega arith) ∙ get_or-drop (5 + 2 * i) ws 1 0 ∙ ap (λ k. word k ws) next) j;
    }

-- with one more put behind them
pub one_more : {A : Type 0} (f : A → plain.Absence) (ws : List ℕ) (i : ℕ) (xs bs : List A) (x : A) → bs ≡ xs ++ (x ∷ []) → f x ≡ absence (word (5 + 2 * i) ws) (word (6 + 2 * i) ws) →
    map f xs ≡ map absence_in (rows 2 i (drop 5 ws)) → map f bs ≡ map absence_in (rows 2 (i + 1) (drop 5 ws))
one_more f ws i xs bs x e h v =
    ap (map f) e
    ∙ map-append f xs (x ∷ [])
    ∙ ap (λ l. l ++ (f x ∷ [])) v
    ∙ ap (λ a. map absence_in (rows 2 i (drop 5 ws)) ++ (a ∷ [])) (h ∙ sym (pair_at ws i))
    ∙ sym (map-append absence_in (rows 2 i (drop 5 ws)) _)
    ∙ ap (map absence_in) (sym (rows_more 2 i (drop 5 ws)) ∙ ap (λ n. rows 2 n (drop 5 ws)) (sym (add-one i)))

-- the part that a number names
named_part : (p : declared.Part) → part_named (part_number (plain_part p)) ≡ plain_part p
named_part Whole = refl
named_part Leg = refl
named_part Core = refl
named_part Remainder = refl

part-few : (p : declared.Part) → leb (part_number (plain_part p)) 3 ≡ true
part-few Whole = refl
part-few Leg = refl
part-few Core = refl
part-few Remainder = refl

certificate-few : (q : declared_c.Certificate) → leb (certificate_number q) 2 ≡ true
certificate-few Missing = refl
certificate-few ByAbandonment = refl
certificate-few ByExecution = refl

module _ (hs : List ℕ) where
  pub told : (h : History) → part_number (plain_part h.part) ≡ word 0 hs → certificate_number h.certified ≡ word 1 hs → h.departed_by.0 ≡ word 2 hs → (n : ℕ) → n ≡ word 3 hs → h.returned ≡ eqb n 1 →
      map plain_absence (held h.absences) ≡ absences_in hs → held h.marks ≡ marks_in hs → Tells hs h
  told h p q d n e r a m =
      record {
        part = sym (ap part_named (sym p) ∙ named_part h.part);
        certificate = q;
        departed_by = d;
        returned = r ∙ ap (λ k. eqb k 1) e;
        absences = a;
        marks = m;
      }

  pub told_sound : (p : declared.Part) (q : declared_c.Certificate) (d n : ℕ) (xs : List plain.Absence) → part_number (plain_part p) ≡ word 0 hs → certificate_number q ≡ word 1 hs →
      d ≡ word 2 hs → n ≡ word 3 hs → xs ≡ absences_in hs → is_departed_by d ≡ true → n ≤ 1 → all (λ (a : plain.Absence). is_shard a.shard) xs && ascending absence_key xs ≡ true → history_sound hs ≡ true
  unfolding history_sound
  told_sound p q d n xs a b e g l f few t =
      let placed : all (λ (a : plain.Absence). is_shard a.shard) xs ≡ true = and_left (all (λ (a : plain.Absence). is_shard a.shard) xs) (ascending absence_key xs) t in
      let rising : ascending absence_key xs ≡ true = and_right (all (λ (a : plain.Absence). is_shard a.shard) xs) (ascending absence_key xs) t in
      rw (← a, ← b, ← e, ← g, ← l, part-few p, certificate-few q, f, le-leb n 1 few, placed, rising)
