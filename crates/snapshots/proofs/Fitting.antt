-- What a part asks of the entry that an admission takes in, told by that entry.
-- Assumes nothing.
use Prim.Native.Nat.{ℕ, zero, suc, ◌+◌, ◌*◌, ◌≤◌}
use mathlib.Core.Path.{◌≡◌, refl, sym, ap, ◌∙◌}
use mathlib.Core.Bool.{Bool, true, false, cond, not, ◌&&◌}
use mathlib.Core.List.{List, [], ◌∷◌}
use native.Mathlib.Omega.{arith}
use lib.Dec.{eqb, ltb}
use lib.ListN.{length, take, drop}
use borrow.Author.Tests.{lt-ltb, leb-true, ne_eqb}
use Rattle.lists.specs.Lists.{filled, has, self, zip_by, part}
use Rattle.lists.proofs.Tests.{cond_same}
use Rattle.lists.proofs.Keep.{each_of}
use Rattle.lists.proofs.Cuts.{part_length, cut-length, zip_by-length}
use Rattle.rules.specs.Plain as plain
use Rattle.rules.specs.Plain.{whole, leg, core, is_leg, is_core, Terms, owes}
use Rattle.rules.specs.Words.{edge, with, decomposed, core_count, edge_count, core_at, edges_at, core_in, froms, kinds, sizes, edges_in, destinations, destinations_at, admission_terms, admission_tests, admission_formed}
use Rattle.rules.specs.Entries.{whole_terms, admitted}
use Rattle.rules.specs.Snapshot.{part_fits}
use Rattle.entry.specs.declared.Entry.{Entry}
use Rattle.entry.specs.Entry.{plain_entry, Means}
use Rattle.words.specs.Admission.{Sized}
use Rattle.words.proofs.Forms.{formed_of}

-- a list is empty just where its length is 0
none_in : {A : Type 0} (l : List A) (n : ℕ) → length l ≡ n → not (filled l) ≡ eqb n 0
none_in [] n e = sym (ap (λ m. eqb m 0) (sym e))
none_in (x ∷ l) n e = sym (ne_eqb n 0 (λ q. omega (arith, e, q)))

-- the entry that an admission takes in is a leg, or a core, just where a leg, or a core, fits
leg_fits : (d : ℕ) (h : Bool) → d ≤ 1 → is_leg (cond (eqb d 0) whole (cond h core leg)) ≡ eqb d 1 && not h
leg_fits zero h b = refl
leg_fits (suc zero) true b = refl
leg_fits (suc zero) false b = refl
leg_fits (suc (suc d)) h b = absurd (omega arith)

core_fits : (d : ℕ) (h : Bool) → d ≤ 1 → is_core (cond (eqb d 0) whole (cond h core leg)) ≡ eqb d 1 && h
core_fits zero h b = refl
core_fits (suc zero) true b = refl
core_fits (suc zero) false b = refl
core_fits (suc (suc d)) h b = absurd (omega arith)

core_terms : (b h : Bool) (q : Terms → Bool) (u t : Terms) → is_core (cond b whole (cond h core leg)) && q (cond b u t) ≡ is_core (cond b whole (cond h core leg)) && q t
core_terms true h q u t = refl
core_terms false h q u t = refl

and_assoc : (a b c : Bool) → a && b && c ≡ a && (b && c)
and_assoc true b c = refl
and_assoc false b c = refl

module _ (ws : List ℕ) (f : admission_formed ws ≡ true) where
  abbrev t : Terms
  t = admission_terms ws

  sized : Sized ws
  sized = (formed_of ws f).sized

  few : decomposed ws ≤ 1
  unfolding admission_formed
  few = leb-true (decomposed ws) 1 (each_of (admission_tests ws) f).1.1.1.1.1.1.0

  coreless : not (filled t.core_shards) ≡ eqb (core_count ws) 0
  unfolding admission_terms
  coreless = none_in (core_in ws) (core_count ws) (part_length (core_at ws) (core_count ws) ws (omega (arith, sized.room)))

  edgeless : not (filled t.edges) ≡ eqb (edge_count ws) 0
  unfolding admission_terms
  edgeless =
      let n = edge_count ws in
      let at = edges_at ws in
      let room = sized.room in
      let a = part_length at n ws (omega arith) in
      let b = part_length (at + n) n ws (omega arith) in
      let c = part_length (at + 2 * n) n ws (omega arith) in
      let d = part_length (at + 3 * n) n ws (omega arith) in
      let one = zip_by-length edge (part at n ws) (froms ws) (omega arith) in
      let two = zip_by-length {B = ℕ} with (zip_by edge (part at n ws) (froms ws)) (kinds ws) (omega arith) in
      let three = zip_by-length {B = List ℕ} with (zip_by with (zip_by edge (part at n ws) (froms ws)) (kinds ws)) (destinations ws) (omega (arith, cut-length (sizes ws) (drop (destinations_at ws) ws))) in
      none_in (edges_in ws) n (omega arith)

  pub whole-fits : (local : ℕ) → eqb (decomposed ws) 0 && (eqb (core_count ws) 0 && eqb (edge_count ws) 0) ≡ part_fits whole local (decomposed ws) t
  whole-fits local = rw (coreless, edgeless)

  module _ (local : ℕ) (e : Entry) (m : Means (admitted local ws) e) where
    part_is : (plain_entry e).part ≡ cond (eqb (decomposed ws) 0) whole (cond (has self local (core_in ws)) core leg)
    unfolding admitted
    part_is = ap (λ (x : plain.Entry). x.part) m.plain ∙ cond_same (λ (x : plain.Entry). x.part) (eqb (decomposed ws) 0) _ _

    pub leg-fits : is_leg (plain_entry e).part ≡ part_fits leg local (decomposed ws) t
    unfolding admission_terms
    leg-fits = ap is_leg part_is ∙ leg_fits (decomposed ws) (has self local (core_in ws)) few

    pub core-fits : is_core (plain_entry e).part ≡ part_fits core local (decomposed ws) t
    unfolding admission_terms
    core-fits = ap is_core part_is ∙ core_fits (decomposed ws) (has self local (core_in ws)) few

    terms-are : (plain_entry e).terms ≡ cond (eqb (decomposed ws) 0) (whole_terms t) t
    unfolding admitted
    terms-are = ap (λ (x : plain.Entry). x.terms) m.plain ∙ cond_same (λ (x : plain.Entry). x.terms) (eqb (decomposed ws) 0) _ _

    -- of a core the terms are the admission's
    pub remainder-fits : is_core (plain_entry e).part && owes local (plain_entry e).terms ≡ part_fits plain.remainder local (decomposed ws) t
    unfolding admission_terms
    remainder-fits =
        let has_core = has self local (core_in ws) in
        ap (λ p. is_core p && owes local (plain_entry e).terms) part_is
        ∙ ap (λ u. is_core (cond (eqb (decomposed ws) 0) whole (cond has_core core leg)) && owes local u) terms-are
        ∙ core_terms (eqb (decomposed ws) 0) has_core (owes local) (whole_terms t) t
        ∙ ap (λ b. b && owes local t) (core_fits (decomposed ws) has_core few)
        ∙ and_assoc (eqb (decomposed ws) 1) has_core (owes local t)

-- a number of marks is none just where there is no mark
pub issued : (n : ℕ) (l : List ℕ) → n ≤ length l → ltb 0 n ≡ filled (take n l)
issued zero l h = refl
issued (suc n) [] h = absurd (omega arith)
issued (suc n) (x ∷ l) h = lt-ltb 0 (suc n) (omega arith)
