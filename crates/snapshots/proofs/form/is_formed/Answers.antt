-- The numbers first, then the lengths, then each entry.
use Rattle.std.proofs.Common.{◌≡◌, ◌∙◌, ◌+◌, ◌-◌, ◌*◌, sym, ap₂, eqb, length, List, ℕ}
use Rattle.lists.specs.Lists.{all, total, self, cut}
use Rattle.rules.specs.Words.{word}
use Rattle.rules.specs.Snapshot.{sizes_at, entry_lengths, entries_at, departure_count, entry_formed}
use Rattle.snapshots.proofs.Forms.{uncounted, counted_rows, entries_told, departures_told, lengths-are, joined-are}
use Rattle.snapshots.proofs.form.is_formed.Goals as goal

pub returns-then-not-is_counted : goal.returns-then-not-is_counted
returns-then-not-is_counted c = uncounted c.args.words.now (sym c.is_counted.ensures ∙ c.if-not-is_counted.true)

-- the lengths add up just where the rules' do
added : (ws ls : List ℕ) (at n m : ℕ) → at ≡ sizes_at ws → n ≡ word at ws → m ≡ word (at + 1) ws → ls ≡ entry_lengths ws →
    eqb (length ws - (at + 2 + n + 4 * m)) (total self ls) ≡ eqb (length ws - (entries_at ws + 4 * departure_count ws)) (total self (entry_lengths ws))
added ws ls at n m a e h k = rw (k, entries_told ws at n a e, departures_told ws at m a h, a)

pub returns-then-adds_up : goal.returns-then-adds_up
returns-then-adds_up c =
    let ws = c.args.words.now in
    let are = lengths-are ws _ c.size_at-n.result c.sizes_at-at.ensures _ c.size_at-n.ensures c.part-lengths.ensures in
    let fits = sym (added ws c.part-lengths.result.now _ _ _ c.sizes_at-at.ensures c.size_at-n.ensures c.size_at.ensures are) ∙ sym c.adds_up.ensures ∙ c.if-adds_up.true in
    c.are_entries.ensures
    ∙ ap₂ (λ a b. all entry_formed (cut a b)) are (joined-are ws _ c.size_at-n.result c.sizes_at-at.ensures _ c.size_at-n.ensures c.split_at.ensures.back)
    ∙ (rw fits at (counted_rows ws (sym c.is_counted.ensures ∙ c.if-not-is_counted.false)))

pub returns-else-adds_up : goal.returns-else-adds_up
returns-else-adds_up c =
    let ws = c.args.words.now in
    let are = lengths-are ws _ c.size_at-n.result c.sizes_at-at.ensures _ c.size_at-n.ensures c.part-lengths.ensures in
    let fits = sym (added ws c.part-lengths.result.now _ _ _ c.sizes_at-at.ensures c.size_at-n.ensures c.size_at.ensures are) ∙ sym c.adds_up.ensures ∙ c.if-adds_up.false in
    c.if-adds_up.false ∙ (rw fits at (counted_rows ws (sym c.is_counted.ensures ∙ c.if-not-is_counted.false)))
