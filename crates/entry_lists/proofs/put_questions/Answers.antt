-- Each turn passes local by, or puts the question of the next shard behind those that are there.
use Rattle.std.proofs.Common.{arith, ap, ◌<◌, ◌≡◌, ◌+◌, ◌∷◌, true, false, length-take-le, map, not, eqb, get_or, take, drop, eq-eqb, ne_eqb, refl, ℕ, Bool, List}
use Rattle.lists.specs.Lists.{keep}
use Rattle.lists.proofs.Cuts.{rest_more}
use Rattle.lists.proofs.Listing.{next-kept, next-left}
use Rattle.rules.specs.Plain as plain
use Rattle.rules.specs.Readings.{Question, ask, question_words}
use Rattle.entry.specs.declared.Entry.{Entry}
use Rattle.entry.specs.Entry.{plain_entry}
use Rattle.entry.proofs.Shape.{fits_of}
use Rattle.entry_lists.proofs.Runs.{none_yet_lem, passed_by, put_one}
use Rattle.entry_lists.proofs.put_questions.Goals as goal
use Rattle.entry_lists.proofs.put_questions.Goals.{then-shard-local, else-shard-local}

abbrev other : ℕ → ℕ → Bool
other local s = not (eqb s local)

-- what is still to be asked
abbrev rest : plain.Entry → ℕ → List ℕ → List Question
rest p local l = map (ask p) (keep (other local) l)

-- the next shard is asked of
asked : (e : Entry) → (local i : ℕ) → i < e.core_len → eqb (get_or (take e.core_len e.core) i 0) local ≡ false →
    rest (plain_entry e) local (drop i (take e.core_len e.core)) ≡ ask (plain_entry e) (get_or (take e.core_len e.core) i 0) ∷ rest (plain_entry e) local (drop (i + 1) (take e.core_len e.core))
asked e local i h t =
    let f = fits_of e in
    let cores = take e.core_len e.core in
    ap (map (ask (plain_entry e))) (next-kept (other local) (get_or cores i 0) _ _ (rest_more 0 cores i (omega (arith, f.core_len, f.core, length-take-le e.core_len e.core (omega (arith, f.core_len, f.core))))) (ap not t))

left : (e : Entry) → (local i : ℕ) → i < e.core_len → eqb (get_or (take e.core_len e.core) i 0) local ≡ true →
    rest (plain_entry e) local (drop i (take e.core_len e.core)) ≡ rest (plain_entry e) local (drop (i + 1) (take e.core_len e.core))
left e local i h t =
    let f = fits_of e in
    let cores = take e.core_len e.core in
    ap (map (ask (plain_entry e))) (next-left (other local) (get_or cores i 0) _ _ (rest_more 0 cores i (omega (arith, f.core_len, f.core, length-take-le e.core_len e.core (omega (arith, f.core_len, f.core))))) (ap not t))

pub loop-shard-init : goal.loop-shard-init
unfolding plain_entry
loop-shard-init c = passed_by question_words 5 _ _ _ _ refl (omega arith) (none_yet_lem question_words 5 _ _ _ _)

pub loop-shard-preserved : goal.loop-shard-preserved
unfolding plain_entry
loop-shard-preserved c =
    let l = c.loop-shard in
    let e = c.args.e.now in
    elim c.if-shard-local.branch [
      | then-shard-local w ↦ rw (w.count-is, w.words-is) (put_one question_words 5 _ _ _ _ _ _ (asked e c.args.local.0 l.shard-index (omega arith) (ne_eqb _ _ w.if-shard-local.true)) (omega arith) (rw w.cell_key-key.ensures at w.put_item.ensures) l.invariant)
      | else-shard-local w ↦ rw (w.count-is, w.words-is) (passed_by question_words 5 _ _ _ _ (left e c.args.local.0 l.shard-index (omega arith) (eq-eqb _ _ w.if-shard-local.false)) (omega arith) l.invariant)
    ]
