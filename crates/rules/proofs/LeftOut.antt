-- Prunes that were left out do not show, where the calls stay apart from what they would have taken: along the calls, the ledger with the
-- prunes is the ledger without them less what the last one took.
-- Assumes nothing.
use Prim.Native.Nat.{ℕ, zero, suc, ◌+◌, ◌≤◌}
use mathlib.Core.Path.{◌≡◌, refl, sym, ap, ap₂, ◌∙◌}
use mathlib.Core.Bool.{true, false, false≢true}
use mathlib.Core.List.{List, [], ◌∷◌, ◌++◌, append-nil, append_assoc}
use native.Mathlib.Omega.{arith}
use lib.ListN.{length}
use Rattle.lists.specs.Lists.{Every, filled}
use Rattle.rules.specs.Plain.{Plain}
use Rattle.rules.specs.Prune.{Report, fallen, reports, pruned, in_order}
use Rattle.rules.specs.Outcome.{said, if_done}
use Rattle.rules.specs.Calls.{Call, admission, absence, certify, abandonment, settled, returned, closes, fated, finalization, forget, terminal, stamp, prune, bundle, step, run, prune_refusal, after_prune}
use Rattle.rules.specs.Good.{Good, OfWords}
use Rattle.rules.specs.LeftOut.{taken_at, less, touch, bare, Omitted, none_yet, calls_of, EachApart, AllApart, all_said, told_by, all_told, gone_by, all_gone, said_less, all_said_less, closed_fallen, all_closed_fallen, Unseen, Alike}
use Rattle.rules.proofs.Kept.{unless-refused, unless-none, unless_some, step-good}
use Rattle.rules.proofs.Ordered.{in_order_first}
use Rattle.rules.proofs.Less.{Felled, Beside, pruned-less, told-less, gone-less, room_later, pruned_first, beside_first, less-nothing, beside_nothing}
use Rattle.rules.proofs.Moved.{Moved, Saying}
use Rattle.rules.proofs.ApartEntries.{forget_paired, fated_paired, certify_paired, absence_paired, mark_paired, admission_paired}
use Rattle.rules.proofs.ApartItems.{finalization_paired, abandonment_paired}
use Rattle.rules.proofs.ApartFiles.{closes_paired, stamp_paired, terminal_paired}
use Rattle.rules.proofs.ApartBundle.{bundle_paired}

-- A call that is no prune, on both ledgers.
stepped : (o : Omitted) (fell : Felled) (p : Plain) → Beside o fell p → (c : Call) → OfWords c → (touch c).prunes ≡ [] → EachApart o (calls_of c) p →
    Saying o fell (closed_fallen o.taken c p) (said_less o.taken c p) (step c (less o.taken p)) (step c p)
stepped o fell p b c w z a = by c w z a (step-good c w p b.good)
  where
    by : (c : Call) → OfWords c → (touch c).prunes ≡ [] → EachApart o (calls_of c) p → Good (step c p).ledger →
        Saying o fell (closed_fallen o.taken c p) (said_less o.taken c p) (step c (less o.taken p)) (step c p)
    by (admission ws) w z a g = admission_paired o fell p b ws a.0.named.0 a.0.clear.0 (a.0.room refl) g
    by (absence x shard key) w z a g = absence_paired o fell p b x (record { shard = shard; key = key }) a.0.named.0 g
    by (certify x code) w z a g = certify_paired o fell p b x code a.0.named.0 g
    by (abandonment ws) w z a g = abandonment_paired o fell p b ws a.0.named a.0.clear a.0.kept.0 (a.0.room refl) g
    by (settled s x) w z a g = mark_paired o fell p b s x false g
    by (returned s x) w z a g = mark_paired o fell p b s x true g
    by (closes room) w z a g = closes_paired o fell p b room (a.0.room refl) g
    by (fated x) w z a g = fated_paired o fell p b x a.0.named.0 g
    by (finalization ws) w z a g = finalization_paired o fell p b ws a.0.named g
    by (forget x) w z a g = forget_paired o fell p b x a.0.named.0 g
    by (terminal shard cut is_stamped until) w z a g = terminal_paired o fell p b shard cut is_stamped until a.0.kept.0 a.0.unheld.0 (a.0.room refl) g
    by (stamp shard until) w z a g = stamp_paired o fell p b shard until g
    by (prune now room) w z a g = absurd (false≢true (sym (ap filled z)))
    by (bundle ws) w z a g = bundle_paired o fell p b ws w a g

-- What follows a stage at which q, with the prunes, is p, without them, less what the last one took.
record Following (o : Omitted) (fell : Felled) (u : ℕ) (cs : List Call) (q p : Plain) : Type 0 where
  says : all_said cs q ≡ all_said_less o cs p
  room : (n : ℕ) → (step (prune u n) (run (bare cs) p)).refused ≡ 0 → (step (prune u n) (run cs q)).refused ≡ 0
  left : pruned u (run cs q) ≡ pruned u (run (bare cs) p)
  told : in_order (fell.told ++ (all_told cs q ++ reports u (run cs q))) ≡ reports u (run (bare cs) p)
  gone : fell.there + (all_gone cs q + length (fallen u (run cs q))) ≡ length (fallen u (run (bare cs) p)) + all_closed_fallen o cs p

-- a prune, or another call
by_kind : (P : Call → Type 0) → ((now n : ℕ) → P (prune now n)) → ((c : Call) → (touch c).prunes ≡ [] → P c) → (c : Call) → P c
by_kind P f g (admission ws) = g (admission ws) refl
by_kind P f g (absence t shard key) = g (absence t shard key) refl
by_kind P f g (certify t code) = g (certify t code) refl
by_kind P f g (abandonment ws) = g (abandonment ws) refl
by_kind P f g (settled r t) = g (settled r t) refl
by_kind P f g (returned r t) = g (returned r t) refl
by_kind P f g (closes room) = g (closes room) refl
by_kind P f g (fated t) = g (fated t) refl
by_kind P f g (finalization ws) = g (finalization ws) refl
by_kind P f g (forget t) = g (forget t) refl
by_kind P f g (terminal shard cut is_stamped until) = g (terminal shard cut is_stamped until) refl
by_kind P f g (stamp shard until) = g (stamp shard until) refl
by_kind P f g (prune now n) = f now n
by_kind P f g (bundle ws) = g (bundle ws) refl

module _ (u : ℕ) where
  -- the end of the calls
  ended : (o : Omitted) (fell : Felled) (q p : Plain) → Moved o fell q p → o.clock ≤ u → Following o fell u [] q p
  unfolding after_prune
  ended o fell q p m h =
      record {
        says = refl;
        room = λ n z. rw m.is (unless-refused (prune_refusal u n (less o.taken p)) (less o.taken p) _ refl
            ∙ room_later o fell p m.beside u h n (sym (unless-refused (prune_refusal u n p) p _ refl) ∙ z));
        left = ap (pruned u) m.is ∙ pruned-less o fell p m.beside u h;
        told = ap (λ q. in_order (fell.told ++ reports u q)) m.is ∙ told-less o fell p m.beside u h;
        gone = omega (arith, ap (λ q. length (fallen u q)) m.is, gone-less o fell p m.beside u h);
      }

  -- a call that is no prune
  other : (o : Omitted) (fell : Felled) (c : Call) (cs : List Call) (q p : Plain) → (touch c).prunes ≡ [] → OfWords c → Moved o fell q p → EachApart o (calls_of c) p →
      ((since : Felled) → Moved o since (step c q).ledger (step c p).ledger → Following o since u cs (step c q).ledger (step c p).ledger) →
      Following o fell u (c ∷ cs) q p
  other o fell c cs q p z w m a f =
      let s = stepped o fell p m.beside c w z a in
      let h = f s.since (rw m.is s.moved) in
      record {
        says = rw z (ap₂ ◌∷◌ (ap (λ q. said (step c q)) m.is ∙ s.says) h.says);
        room = rw z h.room;
        left = rw z h.left;
        told = rw z (rw s.told at h.told);
        gone = rw z (omega (arith, s.there, h.gone));
      }

  -- a prune that is refused, and one that is made
  refused : (o : Omitted) (fell : Felled) (now n m : ℕ) (cs : List Call) (q p : Plain) → Moved o fell q p → (step (prune now n) (less o.taken p)).refused ≡ suc m →
      Following o fell u cs q p → Following o fell u (prune now n ∷ cs) q p
  unfolding after_prune
  refused o fell now n m cs q p v z h =
      let f : (step (prune now n) q).refused ≡ suc m = rw v.is z in
      let same : (step (prune now n) q).ledger ≡ q =
      unless_some (prune_refusal now n q) m q _ (sym (unless-refused (prune_refusal now n q) q _ refl) ∙ f) in
      record {
        says = ap (all_said cs) same ∙ h.says ∙ ap (λ r. all_said_less (if_done r (record { taken = taken_at now p; clock = now }) o) cs p) (sym z);
        room = λ r e. rw same (h.room r e);
        left = ap (λ q. pruned u (run cs q)) same ∙ h.left;
        told =
            ap₂ (λ r s. in_order (fell.told ++ (if_done r (reports now q) [] ++ [] ++ all_told cs s ++ reports u (run cs s)))) f same
            ∙ h.told;
        gone =
            omega (
              arith,
              ap (λ r. if_done r (length (fallen now q)) 0) f,
              ap (all_gone cs) same,
              ap (λ s. length (fallen u (run cs s))) same,
              h.gone,
              ap (λ r. all_closed_fallen (if_done r (record { taken = taken_at now p; clock = now }) o) cs p) z,
            );
      }

  -- reports so far, those of this prune, and the rest
  told_on : (fell ts xs ys next all : List Report) → in_order (fell ++ ts) ≡ next → in_order (next ++ (xs ++ ys)) ≡ all → in_order (fell ++ (ts ++ xs ++ ys)) ≡ all
  told_on fell ts xs ys next all e h =
      ap (λ l. in_order (fell ++ l)) (append_assoc ts xs ys) ∙ ap in_order (sym (append_assoc fell ts (xs ++ ys)))
      ∙ in_order_first (fell ++ ts) (xs ++ ys) ∙ ap (λ l. in_order (l ++ (xs ++ ys))) e ∙ h

  omitted : (o : Omitted) (fell : Felled) (now n : ℕ) (cs : List Call) (q p : Plain) → Moved o fell q p → o.clock ≤ now →
      (step (prune now n) (less o.taken p)).refused ≡ 0 →
      (let next : Omitted = record { taken = taken_at now p; clock = now } in
      let since : Felled = record { told = reports now p; there = length (fallen now p) } in
      Moved next since (step (prune now n) q).ledger p → Following next since u cs (step (prune now n) q).ledger p) →
      Following o fell u (prune now n ∷ cs) q p
  unfolding after_prune
  omitted o fell now n cs q p m steady t f =
      let zero-here : (step (prune now n) q).refused ≡ 0 = rw m.is t in
      let made : (step (prune now n) q).ledger ≡ pruned now q =
      ap (λ o. o.ledger) (unless-none (prune_refusal now n q) q _ (sym (unless-refused (prune_refusal now n q) q _ refl) ∙ zero-here)) in
      let wrote : told_by (prune now n) q ≡ reports now q = ap (λ r. if_done r (reports now q) [] ++ []) zero-here ∙ append-nil (reports now q) in
      let fell-now : gone_by (prune now n) q ≡ length (fallen now q) = ap (λ r. if_done r (length (fallen now q)) 0 + 0) zero-here ∙ omega arith in
      let h = f (record {
        is = made ∙ ap (pruned now) m.is ∙ pruned-less o fell p m.beside now steady ∙ pruned_first now p m.beside.good;
        beside = beside_first now p m.beside.good;
      }) in
      record {
        says = h.says ∙ ap (λ r. all_said_less (if_done r (record { taken = taken_at now p; clock = now }) o) cs p) (sym t);
        room = h.room;
        left = h.left;
        told =
            told_on fell.told (told_by (prune now n) q) _ _ (reports now p) _
            (ap (λ l. in_order (fell.told ++ l)) wrote ∙ ap (λ q. in_order (fell.told ++ reports now q)) m.is ∙ told-less o fell p m.beside now steady) h.told;
        gone =
            omega (
              arith,
              fell-now,
              ap (λ q. length (fallen now q)) m.is,
              gone-less o fell p m.beside now steady,
              h.gone,
              ap (λ r. all_closed_fallen (if_done r (record { taken = taken_at now p; clock = now }) o) cs p) t,
            );
      }

  -- what the calls behind give, of any two ledgers that are so
  abbrev Onward : List Call → Type 0
  Onward cs = (o : Omitted) (fell : Felled) (q p : Plain) → Moved o fell q p → AllApart o u cs p → Following o fell u cs q p

  pruning : (now n : ℕ) (cs : List Call) → Onward cs → Onward (prune now n ∷ cs)
  pruning now n cs rest o fell q p m a = go (step (prune now n) (less o.taken p)).refused refl
    where
      go : (r : ℕ) → (step (prune now n) (less o.taken p)).refused ≡ r → Following o fell u (prune now n ∷ cs) q p
      go zero t = omitted o fell now n cs q p m a.0.0.steady.0 t (λ m. rest _ _ _ _ m (rw t at a.1))
      go (suc r) t = refused o fell now n r cs q p m t (rest o fell q p m (rw t at a.1))

  calling : (c : Call) (cs : List Call) → (touch c).prunes ≡ [] → OfWords c → Onward cs → Onward (c ∷ cs)
  calling c cs z w rest o fell q p m a = other o fell c cs q p z w m a.0 (λ since m. rest o since _ _ m (rw z at a.1))

  onward : (cs : List Call) → Every OfWords cs → Onward cs
  onward [] w = ended
  onward (c ∷ cs) w =
      by_kind (λ c. OfWords c → Onward cs → Onward (c ∷ cs)) (λ now n v rest. pruning now n cs rest) (λ c z v rest. calling c cs z v rest) c w.0 (onward cs w.1)

-- Prunes left out among calls that stay apart from what they take do not show.
pub left_out : (u : ℕ) (cs : List Call) → Every OfWords cs → (p : Plain) → Good p → AllApart none_yet u cs p → Unseen u cs p
left_out u cs w p g a =
    let h = onward u cs w none_yet _ p p (record { is = sym (less-nothing p); beside = beside_nothing p g }) a in
    record { said = h.says; room = h.room; left = h.left; told = h.told; gone = omega (arith, h.gone) }

-- Nor do different prunes among the same calls.
pub alike : (u : ℕ) (cs ds : List Call) → bare cs ≡ bare ds → (p : Plain) → Unseen u cs p → Unseen u ds p → Alike u cs ds p
alike u cs ds e p v w =
    let same : run (bare cs) p ≡ run (bare ds) p = ap (λ l. run l p) e in
    record {
      left = v.left ∙ ap (pruned u) same ∙ sym w.left;
      told = v.told ∙ ap (reports u) same ∙ sym w.told;
    }
