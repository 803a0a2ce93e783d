-- Calls on whole files that stay apart from what a prune takes: closes over the entries, terminal and stamp over the departures.
-- Assumes nothing.
use Prim.Native.Nat.{ℕ, zero, suc, ◌+◌}
use mathlib.Core.Path.{◌≡◌, refl, sym, ap, ◌∙◌}
use mathlib.Core.Bool.{Bool, true, false, cond, not, ◌&&◌, ◌||◌, false≢true}
use mathlib.Core.List.{List, [], ◌∷◌, map, Memᴰ}
use mathlib.Core.Option.{none}
use native.Mathlib.Omega.{arith}
use lib.Dec.{eqb, ltb, leb}
use lib.ListN.{length}
use borrow.Author.Tests.{ltb-false, le-ltb, leb-false, lt-leb}
use Rattle.lists.specs.Lists.{keep, filled, at, has, change, include, concat_map}
use Rattle.lists.proofs.Keep.{keep-keep, every_keep, every_more, every_member, every_change_if, length-keep}
use Rattle.lists.proofs.Order.{include-known}
use Rattle.lists.proofs.Parted.{keep_swap, length_parts, length-words-keep, has-keep, keep-change, keep-put, put_beside}
use Rattle.rules.specs.Numbers.{is_time, is_shard, max_departures}
use Rattle.rules.specs.Plain.{Entry, Departure, Plain, is_core, is_settling, transaction_of, shard_of, is_named, remote, with_entries, with_departures}
use Rattle.rules.specs.Entries.{is_closed}
use Rattle.rules.specs.Prune.{Rule, awaiting, settling, recorded, answering, expiring, rule_of, stands, is_reported, report_of, holds}
use Rattle.rules.specs.Outcome.{Outcome, said, if_done, unless, ◌gives◌then◌, too_short}
use Rattle.rules.specs.Calls.{closed, close_words, closes_refusal, after_closes, stamped, terminal_refusal, after_terminal, stamp_refusal, after_stamp}
use Rattle.rules.specs.Good.{Good}
use Rattle.rules.specs.LeftOut.{Taking, less, Omitted, fallen_in, dropped_in, is_for_room, Clear, Unheld}
use Rattle.rules.proofs.Ordered.{told?}
use Rattle.rules.proofs.Less.{is_left, is_kept, Felled, Beside}
use Rattle.rules.proofs.Verdicts.{stands_beside, stands-stamped, stands_filed}
use Rattle.rules.proofs.Kept.{unless-refused}
use Rattle.rules.proofs.Moved.{table_same, Moved, Saying, same_felled, Paired, unless_paired, done_paired, stays, goes, departures_moved}

module _ (o : Omitted) (fell : Felled) (p : Plain) (b : Beside o fell p) where
  abbrev k : Taking
  k = o.taken

  abbrev left : List Entry → List Entry
  left es = stays o fell p b es

  abbrev gone : List Entry → List Entry
  gone es = goes o fell p b es

  -- Closes: one of the fallen may close, and has no report.
  abbrev is_open : Entry → Bool
  is_open e = not (is_closed p.local e)

  told_open : (e : Entry) → told? p e ≡ true → is_open e ≡ true
  unfolding rule_of
  told_open e h =
      go (is_settling e.part) (is_core e.part && ltb e.certificate 2) (filled e.absences)
      (cond (is_named e) recorded (cond (ltb 0 e.certificate && filled (remote p.local e.terms)) answering expiring)) _ h
    where
      go : (x c a : Bool) (rest : Rule) (y : Bool) → is_reported (cond c awaiting (cond (x || a) settling rest)) ≡ true → not (x && y) ≡ true
      go true true a rest y q = absurd (false≢true q)
      go true false a rest y q = absurd (false≢true q)
      go false c a rest y q = refl

  -- of the fallen, those that do not close are still there
  abbrev still_there : Felled
  still_there = record { told = fell.told; there = length (keep is_open (gone p.entries)) }

  closed_moved : Good (with_entries (keep is_open p.entries) p) →
      Moved o still_there (with_entries (keep is_open (left p.entries)) (less k p)) (with_entries (keep is_open p.entries) p)
  closed_moved g =
      let l : left (keep is_open p.entries) ≡ keep is_open (left p.entries) = keep_swap _ is_open p.entries in
      let r : gone (keep is_open p.entries) ≡ keep is_open (gone p.entries) = keep_swap _ is_open p.entries in
      record {
        is = ap (λ es. with_entries es (less k p)) (sym l);
        beside =
            record {
              good = g;
              clear = rw l (every_keep (Clear k p) is_open (left p.entries) b.clear);
              fall =
                  rw r
                  (every_keep _ is_open (gone p.entries)
                  (every_more _ _ (λ e h. stands_beside p (keep is_open p.entries) p.counts o.clock e ∙ h) (gone p.entries) b.fall));
              same = rw r (ap (map (report_of p.local)) (keep-keep is_open (told? p) told_open (gone p.entries)) ∙ b.same);
              many = rw r;
            };
      }

  closed-left : closed (less k p) ≡ left (closed p)
  closed-left = keep_swap (is_closed p.local) (λ e. is_left k (transaction_of e)) p.entries

  closes-table : (room : ℕ) → is_for_room (closes_refusal room p) ≡ false → closes_refusal room (less k p) ≡ closes_refusal room p
  closes-table room r =
      list_same (too_short room (concat_map close_words (closed p))) (too_short room (concat_map close_words (closed (less k p)))) fewer r
    where
      list_same : (x y : Bool) → (x ≡ false → y ≡ false) → is_for_room (x gives 9 then 0) ≡ false → y gives 9 then 0 ≡ x gives 9 then 0
      list_same true y f h = absurd (false≢true (sym h))
      list_same false y f h = rw (f refl)

      fewer : too_short room (concat_map close_words (closed p)) ≡ false → too_short room (concat_map close_words (closed (less k p))) ≡ false
      fewer h =
          le-ltb room (length (concat_map close_words (closed (less k p))))
          (omega (
            arith,
            ltb-false room (length (concat_map close_words (closed p))) h,
            ap (λ l. length (concat_map close_words l)) closed-left,
            length-words-keep close_words (λ e. is_left k (transaction_of e)) (closed p),
          ))

  fewer_there : still_there.there + length (gone (closed p)) ≡ fell.there
  fewer_there =
      omega (
        arith,
        length_parts (is_closed p.local) (gone p.entries),
        ap length (keep_swap (λ e. k.is_fallen (transaction_of e)) (is_closed p.local) p.entries),
        b.many,
      )

  -- what it says of the other ledger, less the fallen
  abbrev Closed : Outcome → Outcome → Type 0
  Closed with without =
      let es : List Entry = left (closed p) in
      Saying o fell (if_done without.refused (length (gone (closed p))) 0)
      (if_done without.refused (0 ∷ length es ∷ concat_map close_words es) (said without)) with without

  pub closes_paired : (room : ℕ) → is_for_room (after_closes room p).refused ≡ false → Good (after_closes room p).ledger →
      Closed (after_closes room (less k p)) (after_closes room p)
  unfolding after_closes
  closes_paired room r g =
      rw (closes-table room (ap is_for_room (sym (unless-refused (closes_refusal room p) p _ refl)) ∙ r)) (go (closes_refusal room p) g)
    where
      letting : List Entry → Plain → Outcome
      letting es q = record { refused = 0; answers = length es ∷ []; ledger = with_entries (keep is_open q.entries) q; words = concat_map close_words es }

      go : (n : ℕ) → Good (unless n p (letting (closed p) p)).ledger →
          Closed (unless n (less k p) (letting (closed (less k p)) (less k p))) (unless n p (letting (closed p) p))
      go zero h =
          record {
            says = ap (λ es. 0 ∷ length es ∷ concat_map close_words es) closed-left;
            since = still_there;
            told = refl;
            there = fewer_there;
            moved = closed_moved h;
          }
      go (suc n) h = same_felled _ _ _ refl (record { is = refl; beside = b })

  -- A stamp, on a ledger whose departures are ds.
  stamp_falls : (s until : ℕ) (ds : List Departure) (e : Entry) → stands (with_departures ds p) o.clock e ≡ false →
      stands (with_departures (change shard_of s (stamped until) ds) p) o.clock e ≡ false
  stamp_falls s until ds e h = go (stands (with_departures (change shard_of s (stamped until) ds) p) o.clock e) refl
    where
      go : (x : Bool) → stands (with_departures (change shard_of s (stamped until) ds) p) o.clock e ≡ x → x ≡ false
      go true q = absurd (false≢true (sym h ∙ stands-stamped o.clock (with_departures ds p) s until e q))
      go false q = refl

  stamp-clear : (s until : ℕ) (ds : List Departure) (e : Entry) → Clear k (with_departures ds p) e → Clear k (with_departures (change shard_of s (stamped until) ds) p) e
  stamp-clear s until ds e c =
      rw (keep-change shard_of k.is_dropped (stamped until) (λ d. refl) s ds)
      (every_change_if (λ d. holds p.local d e ≡ false) (at shard_of s) (stamped until) (dropped_in k (with_departures ds p)) (λ d h. h) c)

  pub stamp_paired : (s until : ℕ) → Good (after_stamp s until p).ledger → Paired o fell (after_stamp s until (less k p)) (after_stamp s until p)
  unfolding after_stamp
  stamp_paired s until g =
      unless_paired o fell (stamp_refusal s until) p _ _ b g
      (λ e h. done_paired o fell [] [] _ _ refl
      (departures_moved o fell p b (change shard_of s (stamped until) p.departures) _ h
      (keep-change shard_of (is_kept k) (stamped until) (λ d. refl) s p.departures)
      (stamp-clear s until p.departures) (λ e m z. stamp_falls s until p.departures e z)))

  -- A terminal files a departure, unless one of the shard is on file, and may stamp it.
  module _ (d : Departure) (n : k.is_dropped (shard_of d) ≡ false) (v : has shard_of (shard_of d) p.departures ≡ false → Unheld k p d) where
    abbrev filed : List Departure → List Departure
    filed ds = include shard_of d ds

    filed_kept : keep (λ d. is_kept k (shard_of d)) (filed p.departures) ≡ filed (less k p).departures
    filed_kept = keep-put shard_of (is_kept k) d (ap not n) p.departures b.good.departures.rows.order

    filed_clear : (e : Entry) → Clear k p e → Clear k (with_departures (filed p.departures) p) e
    filed_clear e c = rw (put_beside shard_of k.is_dropped d n p.departures b.good.departures.rows.order) c

    filed_falls : (e : Entry) → Memᴰ e (fallen_in k p) → stands p o.clock e ≡ false → stands (with_departures (filed p.departures) p) o.clock e ≡ false
    filed_falls e m s = go (has shard_of (shard_of d) p.departures) refl
      where
        go : (x : Bool) → has shard_of (shard_of d) p.departures ≡ x → stands (with_departures (filed p.departures) p) o.clock e ≡ false
        go true h = rw (include-known shard_of d p.departures b.good.departures.rows.order h) s
        go false h =
            stands_filed o.clock p d e b.good.departures.rows.order h (every_member (λ e. holds p.local d e ≡ false) (fallen_in k p) (v h) m) ∙ s

    filed_moved : (until : ℕ) (c : Bool) → Good (with_departures (cond c (filed p.departures) (change shard_of (shard_of d) (stamped until) (filed p.departures))) p) →
        Moved o fell
        (with_departures (cond c (filed (less k p).departures) (change shard_of (shard_of d) (stamped until) (filed (less k p).departures))) (less k p))
        (with_departures (cond c (filed p.departures) (change shard_of (shard_of d) (stamped until) (filed p.departures))) p)
    filed_moved until true g = departures_moved o fell p b (filed p.departures) _ g filed_kept filed_clear filed_falls
    filed_moved until false g =
        departures_moved o fell p b (change shard_of (shard_of d) (stamped until) (filed p.departures)) _ g
        (keep-change shard_of (is_kept k) (stamped until) (λ d. refl) (shard_of d) (filed p.departures)
        ∙ ap (change shard_of (shard_of d) (stamped until)) filed_kept)
        (λ e c. stamp-clear (shard_of d) until (filed p.departures) e (filed_clear e c))
        (λ e m s. stamp_falls (shard_of d) until (filed p.departures) e (filed_falls e m s))

  terminal-table : (shard cut is_stamped until : ℕ) → k.is_dropped shard ≡ false → is_for_room (after_terminal shard cut is_stamped until p).refused ≡ false →
      terminal_refusal shard cut is_stamped until (less k p) ≡ terminal_refusal shard cut is_stamped until p
  unfolding after_terminal
  terminal-table shard cut is_stamped until n r =
      table_same 7 0 refl (ltb 1 is_stamped) (not (is_time cut && (eqb is_stamped 0 || is_time until))) (not (is_shard shard))
      (not (has shard_of shard p.departures) && leb max_departures (length p.departures))
      (not (has shard_of shard (less k p).departures) && leb max_departures (length (less k p).departures)) fewer
      (ap is_for_room (sym (unless-refused (terminal_refusal shard cut is_stamped until p) p _ refl)) ∙ r)
    where
      fewer : not (has shard_of shard p.departures) && leb max_departures (length p.departures) ≡ false →
          not (has shard_of shard (less k p).departures) && leb max_departures (length (less k p).departures) ≡ false
      fewer h = rw (has-keep shard_of (is_kept k) shard (ap not n) p.departures) (go (has shard_of shard p.departures) h)
        where
          go : (x : Bool) → not x && leb max_departures (length p.departures) ≡ false → not x && leb max_departures (length (less k p).departures) ≡ false
          go true q = refl
          go false q =
              lt-leb max_departures (length (less k p).departures)
              (omega (arith, leb-false max_departures (length p.departures) q, length-keep (λ d. is_kept k (shard_of d)) p.departures))

  pub terminal_paired : (shard cut is_stamped until : ℕ) → k.is_dropped shard ≡ false →
      (has shard_of shard p.departures ≡ false → Unheld k p (record { shard = shard; cut = cut; stamp = none })) →
      is_for_room (after_terminal shard cut is_stamped until p).refused ≡ false → Good (after_terminal shard cut is_stamped until p).ledger →
      Paired o fell (after_terminal shard cut is_stamped until (less k p)) (after_terminal shard cut is_stamped until p)
  unfolding after_terminal
  terminal_paired shard cut is_stamped until n v r g =
      rw (terminal-table shard cut is_stamped until n r)
      (unless_paired o fell (terminal_refusal shard cut is_stamped until p) p _ _ b g
      (λ e h. done_paired o fell [] [] _ _ refl (filed_moved (record { shard = shard; cut = cut; stamp = none }) n v until (eqb is_stamped 0) h)))
