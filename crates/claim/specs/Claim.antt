-- The one claim about every list of calls and every list of clocks after it: the ledger equals the plain one, and the prunes are as one at the last.
use Rattle.std.specs.Prelude.{ℕ, ◌*◌, ◌<◌, ◌≡◌, Bool, ◌&&◌, List, leb, length, take, IfSome, IfNone}
use Rattle.std.specs.Option.{is_some}
use Rattle.lists.specs.Lists.{concat_map}
use Rattle.rules.specs.Widths.{report_size, report_room}
use Rattle.rules.specs.Plain.{Plain}
use Rattle.rules.specs.Index.{index, names, lists_record}
use Rattle.rules.specs.Prune.{report_words, fallen, reports, pruned, prunes, all_reports, all_fallen, in_order, last_of}
use Rattle.rules.specs.Calls.{Call, run}
use Rattle.store.specs.Issuers as issuers
use Rattle.store.specs.Issuers.{pairs_in}
use Rattle.store.specs.Counts.{counts_in}
use Rattle.ledger.specs.declared.Ledger.{Ledger}
use Rattle.ledger.specs.Contents.{contents, Held}
use Rattle.ledger.specs.Meets.{written}
use Rattle.claim.specs.declared.RunAndPruned.{RunAndPruned}
use Rattle.claim.specs.declared.series.PrunedAll.{PrunedAll}
use Rattle.claim.specs.Calls.{decode, lent_after}
use Rattle.claim.specs.Series.{steady, all_counts, firsts_of, seconds_of, reports_in, AsCalls}

-- a list that is lent, before and after
pub record Lent : Type 0 where
  pub was : List ℕ
  pub is : List ℕ

abbrev pub lent : List ℕ → List ℕ → Lent
lent was is = record { was = was; is = is }

-- 'local, spans, entries, index, departures and count equal the plain ledger's in every field', each of the counts that stand in place of the one, of
-- a ledger that calls hand back: all but the index is in the contents; the index holds the pairs that the plain ledger's is, and these are just the record and owed transaction that
-- lists it. Shut out: the right entries under other keys in the roster (`held`), an entry that differs where no answer shows it (`fields`), an
-- index that lacks a pair or has one too many (`pairs`, `named`).
pub record Equals (p : Plain) (l : Ledger) : Type 0 where
  pub held : Held l
  pub fields : contents l ≡ p
  pub pairs : issuers.Holds (index p) l.issuers
  pub named : (record_key transaction : ℕ) → names (pairs_in l.issuers) record_key transaction ≡ lists_record p record_key transaction

-- 'a valid clock is a time', 'never-falling'; with room for a report of each of the 48 entries, and for two numbers of each prune
abbrev pub may_prune : List ℕ → List ℕ → List ℕ → Bool
may_prune clocks report_list count_list = steady 0 clocks && (leb report_room (length report_list) && leb (2 * length clocks) (length count_list))

-- 'Each call or prune gets the ledger that the last one handed back', 'the prunes are made at each clock in turn'. k is the caller's choice, so
-- that the ledger is known after each of them, with its index; k = 0 is the ledger before the prunes. One list of 144 words in all is lent
-- for the reports, and not one for each prune: that is the stronger claim, since what has fallen and what stands are never more than 48, so
-- no prune is refused that room for 48 reports would let through (`calls`), and what each wrote is still there after the last.
pub record InTurn (p : Plain) (clocks : List ℕ) (k : ℕ) (report_list count_list : Lent) (r : PrunedAll) : Type 0 where
  -- shut out: prunes at the last clock alone, the first clock left out, clocks in another order; for some k the ledger then differs
  pub between : Equals (prunes (take k clocks) p) r.between
  -- shut out: one prune too few at the end
  pub after : Equals (prunes clocks p) r.after
  -- the reports as they were written; shut out: all of them in the one prune's order, one written twice, a word changed beyond the last
  pub told : report_list.is ≡ written (concat_map report_words (all_reports clocks p)) report_list.was
  -- clock by clock; shut out: one prune that fells all where each should fell some, and the two numbers of a prune exchanged
  pub counted : count_list.is ≡ written (all_counts clocks p) count_list.was
  -- shut out: sums that leave a prune out
  pub gone : r.fallen ≡ all_fallen clocks p
  pub many : r.written ≡ length (all_reports clocks p)
  -- of the definitions above, and no program: each prune is the changing call `prune` with room for 48 reports, accepted, with these words and
  -- answers. With it they shut out a series by other rules than the call's
  pub calls : AsCalls clocks p

-- 'and leave and report what one prune at the last would'
pub record AsOne (p : Plain) (clocks : List ℕ) (last : ℕ) (report_list count_list : Lent) (before : Ledger) (r : PrunedAll) : Type 0 where
  -- 'after the prunes, those of the plain ledger pruned once'; shut out: a departure dropped on the way that the last prune would have kept
  pub left : Equals (pruned last p) r.after
  -- 'with local, spans and counts unchanged'; shut out: a prune that starts a count again
  pub local : r.after.local.0 ≡ before.local.0
  pub validity : r.after.validity ≡ before.validity
  pub core_span : r.after.core_span ≡ before.core_span
  pub leg_span : r.after.leg_span ≡ before.leg_span
  pub counts : counts_in r.after.counts ≡ counts_in before.counts
  -- 'the reports, put in transaction order, equal the one prune's word for word'; shut out: a report lost or doubled, or with another charge
  pub told : in_order (reports_in (take (report_size * r.written) report_list.is)) ≡ reports last p
  pub words : concat_map report_words (in_order (reports_in (take (report_size * r.written) report_list.is))) ≡ concat_map report_words (reports last p)
  -- 'the numbers fallen and of reports written add up to its own', those handed back and those of the single prunes; shut out: an entry that
  -- falls twice, or is counted at no clock
  pub gone : r.fallen ≡ length (fallen last p)
  pub many : r.written ≡ length (reports last p)
  pub added_fallen : seconds_of (take (2 * length clocks) count_list.is) ≡ length (fallen last p)
  pub added_written : firsts_of (take (2 * length clocks) count_list.is) ≡ length (reports last p)

-- Where the clocks fall or are no times, or a list is too short, no prune is made: the ledger before is all that is handed back (`made`), and
-- neither list is touched. Shut out: a program that writes anything there.
pub record NoPrune (report_list count_list : Lent) : Type 0 where
  pub reports : report_list.is ≡ report_list.was
  pub counts : count_list.is ≡ count_list.was

-- The claim about a list of calls and the clocks after it, from a ledger that holds `start`: 'a fresh ledger is what a making hands back, a
-- refused one too' (`claim::run_and_prune`); 'a restored ledger may then stand in place of a fresh one', and `start` is 'what the snapshot says',
-- or what a refused making hands back where the reader refuses the words (`restore_and_prune`); or any that a call handed back
-- (`run_and_prune_from`). A restored one is what some list of calls makes of a fresh one, so its claim is that of the fresh one with these calls in
-- front (proofs/Restored.antt). `start` is fed nothing but the calls' arguments and the lengths of their lent lists; shut out: a program that is
-- right only of what it holds itself. It holds of 'every list of calls' (`decode` reaches each, proofs/Decoding.antt) and of every list of clocks, so
-- also after each call.
pub record Claim (start : Plain) (calls : List Call) (clocks : List ℕ) (k : ℕ) (call_list report_list count_list : Lent) (r : RunAndPruned) : Type 0 where
  -- 'the contents are what the rules give for that list'; shut out: a call left out, made twice, or lent a longer list than it asks for
  pub listed : Equals (run calls start) r.before
  -- what one outcome writes and then what the next; shut out: a call that is refused and writes, and one that touches words beyond its own
  pub wrote : call_list.is ≡ lent_after calls start call_list.was
  -- shut out: a program that makes no prune, whatever the clocks, and one that answers anything where none may be made
  pub made : is_some r.pruned ≡ may_prune clocks report_list.was count_list.was
  pub in_turn : IfSome r.pruned (InTurn (run calls start) clocks k report_list count_list)
  -- of no clock there is no last
  pub as_one : 0 < length clocks → IfSome r.pruned (AsOne (run calls start) clocks (last_of 0 clocks) report_list count_list r.before)
  pub no_prune : IfNone r.pruned (NoPrune report_list count_list)

-- the claim of calls that are given as words, and of the three lists as they were lent and as they were left
abbrev pub Claims : Plain → List ℕ → List ℕ → ℕ → (l l' r r' c c' : List ℕ) → RunAndPruned → Type 0
Claims start words clocks k l l' r r' c c' handed = Claim start (decode (length l) words) clocks k (lent l l') (lent r r') (lent c c') handed
