-- What an empty ledger has before its local and its spans are known to be valid.
use Rattle.std.specs.Prelude.{ℕ, ◌≡◌, []}
use Rattle.rules.specs.Plain.{empty}
use Rattle.store.specs.Roster as roster
use Rattle.store.specs.Issuers as issuers
use Rattle.store.specs.Departures as departures
use Rattle.ledger.specs.declared.Ledger.{Ledger}
use Rattle.ledger.specs.Contents.{contents}

pub record Fresh (local v c l : ℕ) (r : Ledger) : Type 0 where
  pub roster : roster.Fresh r.roster
  pub issuers : issuers.Holds [] r.issuers
  pub departures : departures.Holds [] r.departures
  pub contents : contents r ≡ empty local v c l
