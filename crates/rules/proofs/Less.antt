-- A ledger less what a prune takes: what the prune leaves is that, and a later prune of it is one of the whole.
-- Assumes nothing.
use Prim.Native.Nat.{ℕ, ◌+◌, ◌≤◌}
use mathlib.Core.Path.{◌≡◌, refl, sym, ap, ap₂, ◌∙◌}
use mathlib.Core.Bool.{Bool, true, false, not, ◌&&◌, false≢true}
use mathlib.Core.List.{List, [], ◌++◌, map, Memᴰ}
use native.Mathlib.Omega.{arith}
use lib.ListN.{length}
use borrow.Author.Tests.{not-true, not-false, ltb-false, le-ltb}
use Rattle.lists.specs.Lists.{keep, any, concat_map, Every}
use Rattle.lists.proofs.Tests.{and_left, not-not}
use Rattle.lists.proofs.Keep.{keep_same, keep-count, keep_all, keep_never, any_same, every_always, every_keep, every_more, every_member}
use Rattle.lists.proofs.Order.{ascending-keep}
use Rattle.lists.proofs.Distinct.{or_not_left, or_not_right}
use Rattle.rules.specs.Plain.{Entry, Departure, Plain, transaction_of, shard_of, remote, with_entries, with_departures}
use Rattle.rules.proofs.Over.{same_over}
use Rattle.rules.specs.Over.{over}
use Rattle.rules.specs.Prune.{readable, is_of_departed_by, answerable, Rule, awaiting, settling, recorded, answering, expiring, rule_of, stands_by, stands, Report, report_of, report_words, survivors, fallen, reports, holds, remains, pruned, insert_all, in_order}
use Rattle.rules.specs.Numbers.{is_time}
use Rattle.rules.specs.Widths.{report_size}
use Rattle.rules.specs.Outcome.{too_short}
use Rattle.rules.specs.Calls.{prune_refusal}
use Rattle.rules.specs.Good.{Good}
use Rattle.rules.specs.LeftOut.{dropped, Taking, nothing, taken_at, fallen_in, dropped_in, less, Omitted, none_yet, Clear}
use Rattle.rules.proofs.Kept.{passed, tested}
use Rattle.rules.proofs.Ordered.{insert_all-append, in_order_alone, length-insert_all, told, ascending-told, told_again, told?}
use Rattle.rules.proofs.Verdicts.{stands-before}
use Rattle.lists.proofs.Listing.{length-words}
use Rattle.lists.proofs.Parted.{every_from, kept_passes, kept_member, keep-within, none_member, any_never, has_kept}

-- by its transaction, by its shard
module _ (k : Taking) where
  abbrev pub is_left : ℕ → Bool
  is_left t = not (k.is_fallen t)

  abbrev pub is_kept : ℕ → Bool
  is_kept s = not (k.is_dropped s)

-- Of what fell by the prunes made so far: the reports, and how many would still be there had it not.
pub record Felled : Type 0 where
  pub told : List Report
  pub there : ℕ

-- What stays so of the ledger on which no prune was made: the entries that the last one would leave hold nothing that it drops; those
-- that fell by it, as far as they are there, fall at its clock; they are as many as fell says, and have its reports.
pub record Beside (o : Omitted) (fell : Felled) (p : Plain) : Type 0 where
  pub good : Good p
  pub clear : Every (Clear o.taken p) (less o.taken p).entries
  pub fall : Every (λ e. stands p o.clock e ≡ false) (fallen_in o.taken p)
  pub same : map (report_of p.local) (keep (told? p) (fallen_in o.taken p)) ≡ fell.told
  pub many : length (fallen_in o.taken p) ≡ fell.there

-- The end: a prune of the ledger less what was taken is a prune of the ledger.
module _ (k : Taking) (p : Plain) where
  clear_at : (e : Entry) → Clear k p e → (d : Departure) → Memᴰ d p.departures → is_kept k (shard_of d) ≡ false → holds p.local d e ≡ false
  clear_at e c d m h =
      every_member (λ d. holds p.local d e ≡ false) (dropped_in k p) c
      (kept_member (λ d. k.is_dropped (shard_of d)) p.departures m (not-false (k.is_dropped (shard_of d)) h))

  stands-less : (u : ℕ) (e : Entry) → Clear k p e → stands (less k p) u e ≡ stands p u e
  stands-less u e c = by (rule_of p.local e)
    where
      by : (r : Rule) → stands_by r (less k p) u e ≡ stands_by r p u e
      by awaiting = refl
      by settling = refl
      by recorded =
          ap (any (readable u))
          (keep-within (λ d. is_kept k (shard_of d)) (is_of_departed_by e) p.departures (λ d m h. or_not_left (is_of_departed_by e d) _ (clear_at e c d m h)))
      by answering =
          any_same _ _ (remote p.local e.terms)
          (λ r n. ap (answerable u)
          (same_over _ _ e r
          (keep-within (λ d. is_kept k (shard_of d)) (over e r) p.departures
          (λ d m h. none_member (λ r. over e r d) (remote p.local e.terms) (or_not_right (is_of_departed_by e d) _ (clear_at e c d m h)) n))))
      by expiring = refl

module _ (o : Omitted) (fell : Felled) (p : Plain) (b : Beside o fell p) (u : ℕ) (h : o.clock ≤ u) where
  abbrev k : Taking
  k = o.taken

  clear_of : (e : Entry) → Memᴰ e (less k p).entries → Clear k p e
  clear_of e m = every_member (Clear k p) (less k p).entries b.clear m

  falls_later : (e : Entry) → Memᴰ e p.entries → is_left k (transaction_of e) ≡ false → stands p u e ≡ false
  falls_later e m f = go (stands p u e) refl
    where
      go : (x : Bool) → stands p u e ≡ x → x ≡ false
      go true s =
          absurd (false≢true (sym (every_member (λ e. stands p o.clock e ≡ false) (fallen_in k p) b.fall
          (kept_member (λ e. k.is_fallen (transaction_of e)) p.entries m (not-false (k.is_fallen (transaction_of e)) f)))
          ∙ stands-before h p e s))
      go false s = refl

  stands_same : (e : Entry) → Memᴰ e (less k p).entries → stands (less k p) u e ≡ stands p u e
  stands_same e m = stands-less k p u e (clear_of e m)

  survivors-less : survivors u (less k p) ≡ survivors u p
  unfolding survivors
  survivors-less =
      keep_same (stands (less k p) u) (stands p u) (less k p).entries stands_same
      ∙ keep-within (λ e. is_left k (transaction_of e)) (stands p u) p.entries falls_later

  unheld-after : (d : Departure) → Memᴰ d p.departures → is_kept k (shard_of d) ≡ false → remains p.local (survivors u (less k p)) d ≡ false
  unfolding survivors
  unheld-after d m f =
      any_never (holds p.local d) (survivors u (less k p))
      (λ e n. clear_at k p e (every_member (Clear k p) (survivors u (less k p)) (every_keep (Clear k p) (stands (less k p) u) (less k p).entries b.clear) n) d m f)

  pub pruned-less : pruned u (less k p) ≡ pruned u p
  unfolding pruned
  pruned-less =
      ap (λ ds. with_departures ds (with_entries (survivors u (less k p)) p))
      (keep-within (λ d. is_kept k (shard_of d)) (remains p.local (survivors u (less k p))) p.departures unheld-after)
      ∙ ap (λ es. with_departures (keep (remains p.local es) p.departures) (with_entries es p)) survivors-less

  -- the tests by which the reports of the two prunes are told
  abbrev leaves : Entry → Bool
  leaves e = is_left k (transaction_of e)

  abbrev remains_at : Entry → Bool
  remains_at e = leaves e && stands p u e

  remains_same : (e : Entry) → Memᴰ e p.entries → remains_at e ≡ stands p u e
  remains_same e m = go (leaves e) refl
    where
      go : (x : Bool) → leaves e ≡ x → x && stands p u e ≡ stands p u e
      go true f = refl
      go false f = sym (falls_later e m f)

  -- of what the first prune left, the second keeps the same
  remains-left : (e : Entry) → Memᴰ e (less k p).entries → stands (less k p) u e ≡ remains_at e
  remains-left e m =
      stands_same e m ∙ ap (λ x. x && stands p u e) (sym (every_member (λ e. leaves e ≡ true) (less k p).entries (kept_passes leaves p.entries) m))

  abbrev reports_of : List Entry → List Report
  reports_of es = map (report_of p.local) (keep (told? p) es)

  first_reports : fell.told ≡ told p.local (told? p) leaves p.entries
  first_reports = sym b.same ∙ ap reports_of (keep_same _ _ p.entries (λ e m. sym (not-not (k.is_fallen (transaction_of e)))))

  pub reports-less : insert_all fell.told (reports u (less k p)) ≡ reports u p
  unfolding reports fallen
  reports-less =
      ap₂ insert_all first_reports
      (ap reports_of (keep_same (λ e. not (stands (less k p) u e)) (λ e. not (remains_at e)) (less k p).entries (λ e m. ap not (remains-left e m))))
      ∙ told_again p.local (told? p) leaves remains_at (λ e. and_left (leaves e) (stands p u e)) p.entries b.good.entries.rows.order
      ∙ ap reports_of (keep_same (λ e. not (remains_at e)) (λ e. not (stands p u e)) p.entries (λ e m. ap not (remains_same e m)))

  pub told-less : in_order (fell.told ++ reports u (less k p)) ≡ reports u p
  unfolding reports fallen
  told-less =
      insert_all-append fell.told (reports u (less k p)) []
      ∙ ap (insert_all fell.told)
      (in_order_alone (reports u (less k p))
      (ascending-told p.local (told? p) (stands (less k p) u) (less k p).entries
      (ascending-keep transaction_of (λ e. is_left k (transaction_of e)) p.entries b.good.entries.rows.order)))
      ∙ reports-less

  -- as many fall of the two as of the one
  pub gone-less : fell.there + length (fallen u (less k p)) ≡ length (fallen u p)
  unfolding fallen
  gone-less =
      ap₂ ◌+◌ (sym b.many ∙ ap length (keep_same _ _ p.entries (λ e m. sym (not-not (k.is_fallen (transaction_of e))))))
      (ap length (keep_same (λ e. not (stands (less k p) u e)) (λ e. not (remains_at e)) (less k p).entries (λ e m. ap not (remains-left e m))))
      ∙ keep-count leaves remains_at (λ e. and_left (leaves e) (stands p u e)) p.entries
      ∙ ap length (keep_same (λ e. not (remains_at e)) (λ e. not (stands p u e)) p.entries (λ e m. ap not (remains_same e m)))

  -- and has room where that has
  pub room_later : (n : ℕ) → prune_refusal u n p ≡ 0 → prune_refusal u n (less k p) ≡ 0
  room_later n z =
      let t = tested (is_time u) 2 _ z in
      let f = passed (too_short n (concat_map report_words (reports u p))) 8 0 t.1 in
      rw (
        t.0,
        le-ltb n (length (concat_map report_words (reports u (less k p)))) (omega (
          arith,
          ltb-false n (length (concat_map report_words (reports u p))) f.0,
          length-words report_words report_size (λ r. refl) (reports u p),
          length-words report_words report_size (λ r. refl) (reports u (less k p)),
          length-insert_all fell.told (reports u (less k p)),
          ap length reports-less,
        )),
      )

-- The beginning: what a prune leaves is the ledger less what it takes.
module _ (t : ℕ) (p : Plain) (g : Good p) where
  fallen-known : (e : Entry) → Memᴰ e p.entries → (taken_at t p).is_fallen (transaction_of e) ≡ not (stands p t e)
  unfolding fallen
  fallen-known e m = has_kept transaction_of (λ e. not (stands p t e)) p.entries g.entries.rows.order e m

  dropped-known : (d : Departure) → Memᴰ d p.departures → (taken_at t p).is_dropped (shard_of d) ≡ not (remains p.local (survivors t p) d)
  unfolding dropped
  dropped-known d m = has_kept shard_of (λ d. not (remains p.local (survivors t p) d)) p.departures g.departures.rows.order d m

  twice : (x y : Bool) → y ≡ not x → x ≡ not y
  twice true y h = rw h
  twice false y h = rw h

  left_first : keep (λ e. is_left (taken_at t p) (transaction_of e)) p.entries ≡ survivors t p
  unfolding survivors
  left_first = sym (keep_same (stands p t) _ p.entries (λ e m. twice (stands p t e) _ (fallen-known e m)))

  kept_first : keep (λ d. is_kept (taken_at t p) (shard_of d)) p.departures ≡ keep (remains p.local (survivors t p)) p.departures
  kept_first = sym (keep_same (remains p.local (survivors t p)) _ p.departures (λ d m. twice (remains p.local (survivors t p) d) _ (dropped-known d m)))

  pub pruned_first : pruned t p ≡ less (taken_at t p) p
  unfolding pruned
  pruned_first = sym (ap₂ (λ ds es. with_departures ds (with_entries es p)) kept_first left_first)

  fallen_first : fallen_in (taken_at t p) p ≡ fallen t p
  unfolding fallen
  fallen_first = keep_same _ (λ e. not (stands p t e)) p.entries fallen-known

  dropped_first : dropped_in (taken_at t p) p ≡ dropped t p
  unfolding dropped
  dropped_first = keep_same _ (λ d. not (remains p.local (survivors t p) d)) p.departures dropped-known

  clear_first : (e : Entry) → Memᴰ e (survivors t p) → Every (λ d. holds p.local d e ≡ false) (dropped t p)
  unfolding dropped
  clear_first e m =
      every_more _ (λ d. holds p.local d e ≡ false) (λ d h. none_member (holds p.local d) (survivors t p) (not-true (remains p.local (survivors t p) d) h) m)
      (keep (λ d. not (remains p.local (survivors t p) d)) p.departures)
      (kept_passes (λ d. not (remains p.local (survivors t p) d)) p.departures)

  pub beside_first : Beside (record { taken = taken_at t p; clock = t }) (record { told = reports t p; there = length (fallen t p) }) p
  unfolding reports fallen
  beside_first =
      record {
        good = g;
        clear = rw left_first (every_from (Clear (taken_at t p) p) (survivors t p) (λ e m. rw dropped_first (clear_first e m)));
        fall = rw fallen_first (every_more _ _ (λ e h. not-true (stands p t e) h) (fallen t p) (kept_passes (λ e. not (stands p t e)) p.entries));
        same = rw fallen_first;
        many = rw fallen_first;
      }

-- Before any prune was left out.
never : {A : Type 0} (l : List A) → keep (λ x. false) l ≡ []
never l = keep_never (λ x. false) l (every_always _ (λ x. refl) l)

pub less-nothing : (p : Plain) → less nothing p ≡ p
less-nothing p = ap₂ (λ ds es. with_departures ds (with_entries es p)) (keep_all p.departures) (keep_all p.entries)

pub beside_nothing : (p : Plain) → Good p → Beside none_yet (record { told = []; there = 0 }) p
beside_nothing p g =
    record {
      good = g;
      clear = every_always (Clear nothing p) (λ e. rw (never p.departures) tt) (less nothing p).entries;
      fall = rw (never p.entries) tt;
      same = rw (never p.entries);
      many = rw (never p.entries);
    }
