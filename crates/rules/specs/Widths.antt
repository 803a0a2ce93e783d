-- Paper, 'Lists': how many words an item of each list has, of which one transaction is a part, and how many a list has that holds an
-- item of every entry; how many words the longest snapshot has, and of these its longest entry.
use Rattle.std.specs.Prelude.{ℕ, ◌+◌, ◌*◌}
use Rattle.rules.specs.Numbers.{max_entries, max_departures, max_counts, max_routes, max_core, max_edges, max_destinations, max_absences, max_marks}
use Rattle.rules.specs.Words.{transaction_size}

abbrev pub question_size : ℕ
question_size = transaction_size + 4

abbrev pub term_size : ℕ
term_size = transaction_size + 4

abbrev pub report_size : ℕ
report_size = transaction_size + 2

abbrev pub close_size : ℕ
close_size = transaction_size + 1

abbrev pub issuer_size : ℕ
issuer_size = transaction_size + 1

abbrev pub term_room : ℕ
term_room = max_entries * term_size

abbrev pub report_room : ℕ
report_room = max_entries * report_size

abbrev pub issuer_room : ℕ
issuer_room = max_entries * issuer_size

-- an entry: what comes ahead of its lists, these, and its history
abbrev pub entry_room : ℕ
entry_room =
    3 + (transaction_size + 5)
    + (max_routes + (max_core + max_edges * (4 + max_destinations)))
    + (6 + (2 * max_absences + max_marks))

abbrev pub snapshot_room : ℕ
snapshot_room = 7 + (2 * max_counts + (max_entries * (1 + entry_room) + 4 * max_departures))
