-- Finalization, line by line: what is still to come does to the ledger in hand what all lines do to the one handed in. Each line
-- skips, turns or releases as the rule on its entry says.
-- Assumes nothing.
use Rattle.std.specs.Prelude.{Some, None}
use Prim.Native.Nat.{ℕ, ◌+◌, ◌≤◌}
use mathlib.Core.Path.{◌≡◌, refl, sym, ap, ◌∙◌, subst}
use mathlib.Core.Bool.{Bool, true, false, cond, not, ◌&&◌, false≢true}
use mathlib.Core.List.{List, [], ◌∷◌}
use mathlib.Core.Option.{some}
use mathlib.Core.Logic.{◌⊎◌, inl, inr}
use native.Mathlib.Omega.{arith}
use lib.Dec.{eqb, leb}
use borrow.Author.Tests.{leb-true, le-leb, eqb-false}
use lib.ListN.{length, drop, set}
use Rattle.lists.specs.Lists.{keep, has, get, change, self}
use Rattle.lists.specs.Arrays.{place}
use Rattle.lists.proofs.Items.{counted-few}
use Rattle.lists.proofs.Tests.{and_left, and_right}
use Rattle.rules.specs.Plain as plain
use Rattle.rules.specs.Plain.{Plain, transaction_of, with_entries, is_core, is_settling, owes, remainder}
use Rattle.rules.specs.Words.{Line, line_count, finalization_formed, finalization_lines, deciding}
use Rattle.rules.specs.Entries.{Ruling, skip, resolve, release, ruling_on, ruling, ruled, is_release, ruling_in, with_line, released_of, released_by, with_part}
use Rattle.rules.specs.Calls.{forget, finalization, after_forget, finalization_refusal, after_finalization}
use Rattle.rules.specs.Good.{Good}
use Rattle.rules.proofs.Kept.{step-good}
use Rattle.rules.proofs.Stepwise.{on_entries, of_entries, through-entries, tally-entries}
use Rattle.types.specs.declared.refusal.Refusal.TheVariants.{Malformed}
use Rattle.entry.specs.declared.Entry.{Entry}
use Rattle.entry.specs.Entry.{plain_entry, Means}
use Rattle.store.specs.declared.roster.Roster.{Roster}
use Rattle.store.specs.declared.issuers.Issuers.{Issuers}
use Rattle.store.specs.Roster.{keys_of, is, Removed}
use Rattle.store.specs.Issuers as issuers
use Rattle.store.specs.Issuers.{is_not, pairs_in}
use Rattle.words.proofs.Lines.{lines_length}
use Rattle.ledger.specs.declared.Ledger.{Ledger}
use Rattle.ledger.specs.Contents.{contents, Held, with_parts, storing, slot_at, lying_at, Became}
use Rattle.ledger.specs.Meets.{Meets, says, says_no}
use Rattle.ledger.proofs.Places.{found_at, not_found}
use Rattle.ledger.proofs.Lift.{changed, let_go}
use Rattle.ledger.proofs.Meeting.{refuses, passes, answers}
use Rattle.ledger.proofs.Doing.{Doing, one_done, all_done}
use Rattle.batches.specs.declared.finalization.Ruling as declared
use Rattle.batches.specs.declared.finalization.Ruling.TheVariants.{Skip, Resolve, Release, Refused}
use Rattle.batches.specs.Rulings.{plain_ruling, ruled_on}

-- the lines from i on, on the ledger in hand, and all lines, on the one handed in
abbrev pub Resolving : Ledger → List ℕ → Ledger → ℕ → ℕ → Type 0
Resolving l₀ ws l released i = Doing (on_entries (λ h. with_line h (deciding ws))) (of_entries (λ h. released_of h (deciding ws))) (finalization_lines ws) l₀ l released i

-- after the last
pub resolved : (l₀ : Ledger) (ws : List ℕ) (l : Ledger) (released i : ℕ) → finalization_formed ws ≡ true → Resolving l₀ ws l released i → line_count ws ≤ i →
    Meets (after_finalization ws (contents l₀)) [] [] (says released l)
unfolding after_finalization
resolved l₀ ws l released i f v h =
    let ds = deciding ws in
    let ls = finalization_lines ws in
    let p = contents l₀ in
    let d = all_done _ _ ls l₀ l released i v (omega (arith, lines_length ws f)) in
    let n : released ≡ released_by p.local ds ls p.entries = d.1 ∙ tally-entries (λ h. with_line h ds) (λ h. released_of h ds) ls p in
    passes (finalization_refusal ws) p _ [] [] (says released l) (rw f)
    (rw (sym n) (answers released l _ _ (record { held = v.held; holds = d.0.holds ∙ through-entries (λ h. with_line h ds) ls p }) refl))

-- no line releases more than one
pub one_released : (local : ℕ) (ds : List ℕ) (l : Line) (es : List plain.Entry) → released_of local ds l es ≤ 1
one_released local ds l es = go (ruling_in local ds l es)
  where
    go : (r : Ruling) → is_release r ≤ 1
    go skip = omega arith
    go resolve = omega arith
    go release = omega arith

pub released_few : (l₀ : Ledger) (ws : List ℕ) (l : Ledger) (released i : ℕ) → finalization_formed ws ≡ true → Resolving l₀ ws l released i → released ≤ line_count ws
released_few l₀ ws l released i f v =
    let few = counted-few _ (of_entries (λ h. released_of h (deciding ws))) (finalization_lines ws) (contents l₀) (λ l p. one_released p.local (deciding ws) l p.entries) (contents l) released i v.rest in
    omega (arith, few, lines_length ws f)

-- words that are not well formed are turned away
pub turned_away : (l : Ledger) (ws : List ℕ) → Held l → finalization_formed ws ≡ false → Meets (after_finalization ws (contents l)) [] [] (says_no Malformed l)
unfolding after_finalization
turned_away l ws h e = refuses Malformed l [] (finalization_refusal ws) _ h (rw e)

-- a line of Accept that decides itself turns a core that owes
resolve-good : (p : Plain) (t : ℕ) (e : plain.Entry) → get transaction_of t p.entries ≡ some e → is_core e.part && owes p.local e.terms ≡ true → Good p →
    Good (with_entries (change transaction_of t (with_part remainder) p.entries) p)
unfolding after_finalization finalization_formed finalization_lines deciding
resolve-good p t e q c g =
    let here : is_settling e.part ≡ false = not-settling e.part (and_left (is_core e.part) _ c) in
    rw (q, here, c) at (step-good (finalization (1 ∷ 1 ∷ t ∷ 1 ∷ t ∷ [])) tt p g)
  where
    not-settling : (q : plain.Part) → is_core q ≡ true → is_settling q ≡ false
    not-settling plain.whole h = refl
    not-settling plain.leg h = absurd (false≢true h)
    not-settling plain.core h = refl
    not-settling plain.remainder h = absurd (false≢true h)

-- with a decision code, which is 1, 2 or 3, a line rules as the paper does
pub ruled_on_lem : (local : ℕ) (ds : List ℕ) (l : Line) (e : plain.Entry) → leb 1 l.decision && leb l.decision 3 ≡ true →
    plain_ruling (ruled_on local ds l e) ≡ some (ruling_on local ds l e)
ruled_on_lem local ds l e h =
    go (eqb l.decision 1) (leb 2 l.decision && leb l.decision 3) (is_settling e.part && not (has self l.transaction ds)) (is_core e.part && owes local e.terms) others
  where
    others : eqb l.decision 1 ≡ false → leb 2 l.decision && leb l.decision 3 ≡ true
    others k =
        let low = leb-true 1 l.decision (and_left (leb 1 l.decision) _ h) in
        rw (le-leb 2 l.decision (omega (arith, low, eqb-false l.decision 1 k))) (and_right (leb 1 l.decision) _ h)

    go : (one more waits owing : Bool) → (one ≡ false → more ≡ true) →
        plain_ruling (cond one (cond waits Skip (cond owing Resolve Release)) (cond more (cond waits Skip Release) Refused)) ≡ some (cond waits skip (cond (one && owing) resolve release))
    go true more true owing k = refl
    go true more false true k = refl
    go true more false false k = refl
    go false true true owing k = refl
    go false true false owing k = refl
    go false false waits owing k = absurd (false≢true (k refl))

-- what a ruling on an entry says of it
resolves_core : (local : ℕ) (ds : List ℕ) (l : Line) (e : plain.Entry) → ruling_on local ds l e ≡ resolve → is_core e.part && owes local e.terms ≡ true
resolves_core local ds l e h = go (is_settling e.part && not (has self l.transaction ds)) (eqb l.decision 1) (is_core e.part && owes local e.terms) h
  where
    is_resolve : Ruling → ℕ
    is_resolve skip = 0
    is_resolve resolve = 1
    is_resolve release = 0

    go : (a b c : Bool) → cond a skip (cond (b && c) resolve release) ≡ resolve → c ≡ true
    go true b c q = absurd (let z : ◌≡◌ {A = ℕ} 0 1 = ap is_resolve q in omega arith)
    go false true true q = refl
    go false true false q = absurd (let z : ◌≡◌ {A = ℕ} 0 1 = ap is_resolve q in omega arith)
    go false false c q = absurd (let z : ◌≡◌ {A = ℕ} 0 1 = ap is_resolve q in omega arith)

-- a turn of the loop: the line in hand is x, and the ledger after it
module _ (l₀ : Ledger) (ws : List ℕ) (l : Ledger) (released i : ℕ) (v : Resolving l₀ ws l released i) (x : Line)
    (more : drop i (finalization_lines ws) ≡ x ∷ drop (i + 1) (finalization_lines ws)) where
  abbrev tx : ℕ
  tx = x.transaction

  next : (r : Ruling) (m : Ledger) → ruling_in (contents l).local (deciding ws) x (contents l).entries ≡ r →
      Became (with_entries (ruled r tx (contents l).entries) (contents l)) m → Resolving l₀ ws m (released + is_release r) (i + 1)
  next r m q b =
      one_done _ _ (finalization_lines ws) l₀ l released i v x more m
      (subst (λ y. Became (with_entries (ruled y tx (contents l).entries) (contents l)) m) (sym q) b) (is_release r) (ap is_release (sym q))

  -- as it was: nothing is released
  same : (m : Ledger) (n : ℕ) → Resolving l₀ ws m (n + 0) (i + 1) → Resolving l₀ ws m n (i + 1)
  same m n w = rw (let z : n + 0 ≡ n = omega arith in z) at w

  -- unknown is skipped
  pub line_unknown : place (is tx) 0 (keys_of l.roster) ≡ None → Resolving l₀ ws l released (i + 1)
  line_unknown e =
      same l released (next skip l (ap (ruling (contents l).local (deciding ws) x) (not_found l v.held tx e).got) (record { held = v.held; holds = refl }))

  -- the entry is at k, and s is the rule on it, by a code that is one of the three
  module _ (k : ℕ) (d : Entry) (e : place (is tx) 0 (keys_of l.roster) ≡ Some k) (coded : leb 1 x.decision && leb x.decision 3 ≡ true) (s : declared.Ruling)
      (o : s ≡ ruled_on l.local.0 (deciding ws) x (plain_entry (lying_at l k d))) where
    abbrev old : Entry
    old = lying_at l k d

    said : plain_ruling s ≡ some (ruling_on (contents l).local (deciding ws) x (plain_entry old))
    unfolding contents
    said = ap plain_ruling o ∙ ruled_on_lem l.local.0 (deciding ws) x (plain_entry old) coded

    on : (r : Ruling) → plain_ruling s ≡ some r → ruling_on (contents l).local (deciding ws) x (plain_entry old) ≡ r
    on r q = let both = sym said ∙ q in cc

    rules : (r : Ruling) → plain_ruling s ≡ some r → ruling_in (contents l).local (deciding ws) x (contents l).entries ≡ r
    rules r q = ap (ruling (contents l).local (deciding ws) x) ((found_at l v.held tx k e).got d) ∙ on r q

    -- the entry is left as it is: the line skips it, and none is refused
    pub line_leave : (s ≡ Skip) ⊎ (s ≡ Refused) → Resolving l₀ ws l released (i + 1)
    line_leave (inl q) = same l released (next skip l (rules skip (ap plain_ruling q)) (record { held = v.held; holds = refl }))
    line_leave (inr q) =
        let both = sym (ap plain_ruling q) ∙ said in
        absurd (let z : ◌≡◌ {A = ℕ} 0 1 = cc in omega arith)

    pub line-resolve : s ≡ Resolve → (y : Entry) → Means (with_part remainder (plain_entry old)) y → (z : length (set l.entries (slot_at l k) y) ≡ 48) →
        Resolving l₀ ws (storing l (slot_at l k) y z) released (i + 1)
    line-resolve q y m u =
        let good = resolve-good (contents l) tx (plain_entry old) ((found_at l v.held tx k e).got d) (resolves_core (contents l).local (deciding ws) x (plain_entry old) (on resolve (ap plain_ruling q))) v.held.good in
        same _ released (next resolve _ (rules resolve (ap plain_ruling q)) (changed l v.held tx k y d (with_part remainder) e m.plain (λ z. refl) good u))

    pub line-release : s ≡ Release → (r : Roster) (ix : Issuers) → Removed l.roster k r → issuers.Holds (keep (is_not tx) (pairs_in l.issuers)) ix →
        (z : length l.entries ≡ 48) → Resolving l₀ ws (with_parts l l.counts r l.entries ix l.departures z) (released + 1) (i + 1)
    unfolding after_forget
    line-release q r ix c w z =
        next release _ (rules release (ap plain_ruling q)) (let_go l v.held tx k r ix e c w (step-good (forget tx) tt (contents l) v.held.good) z)
