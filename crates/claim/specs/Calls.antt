-- A list of calls as words: for each its kind, the length of its lent list, the number of its words, and these words.
use Rattle.std.specs.Prelude.{ℕ, zero, suc, ◌+◌, ◌≤◌, min, ◌≡◌, List, [], ◌∷◌, ◌++◌, length, take, drop}
use Rattle.lists.specs.Lists.{Every}
use Rattle.rules.specs.Plain.{Plain}
use Rattle.rules.specs.Words.{word}
use Rattle.rules.specs.Calls.{Call, admission, absence, certify, abandonment, settled, returned, closes, fated, finalization, forget, terminal, stamp, prune, bundle, step, run}
use Rattle.ledger.specs.declared.Ledger.{Ledger}
use Rattle.ledger.specs.Contents.{contents, Held}
use Rattle.ledger.specs.Meets.{written}
use Rattle.dispatch.specs.Changing.{call_of}

-- the calls that the words hold after the first `skip` of them; no call is lent more than `cap` words
abbrev pub decode_from : ℕ → ℕ → List ℕ → List Call
decode_from cap skip [] = []
decode_from cap zero (w ∷ ws) = call_of w (take (word 1 ws) (drop 2 ws)) (min (word 0 ws) cap) ∷ decode_from cap (2 + word 1 ws) ws
decode_from cap (suc k) (w ∷ ws) = decode_from cap k ws

abbrev pub decode : ℕ → List ℕ → List Call
decode cap ws = decode_from cap 0 ws

-- the other way: the kind of a call, how many words it is lent, its words
abbrev pub kind_of : Call → ℕ
kind_of (admission ws) = 1
kind_of (absence t shard key) = 2
kind_of (certify t code) = 3
kind_of (abandonment ws) = 4
kind_of (settled r t) = 5
kind_of (returned r t) = 6
kind_of (closes room) = 7
kind_of (fated t) = 8
kind_of (finalization ws) = 9
kind_of (forget t) = 10
kind_of (terminal shard cut is_stamped until) = 11
kind_of (stamp shard until) = 12
kind_of (prune now room) = 13
kind_of (bundle ws) = 14

abbrev pub lent_to : Call → ℕ
lent_to (admission ws) = 0
lent_to (absence t shard key) = 0
lent_to (certify t code) = 0
lent_to (abandonment ws) = 0
lent_to (settled r t) = 0
lent_to (returned r t) = 0
lent_to (closes room) = room
lent_to (fated t) = 0
lent_to (finalization ws) = 0
lent_to (forget t) = 0
lent_to (terminal shard cut is_stamped until) = 0
lent_to (stamp shard until) = 0
lent_to (prune now room) = room
lent_to (bundle ws) = 0

abbrev pub words_of : Call → List ℕ
words_of (admission ws) = ws
words_of (absence t shard key) = t ∷ shard ∷ key ∷ []
words_of (certify t code) = t ∷ code ∷ []
words_of (abandonment ws) = ws
words_of (settled r t) = r ∷ t ∷ []
words_of (returned r t) = r ∷ t ∷ []
words_of (closes room) = []
words_of (fated t) = t ∷ []
words_of (finalization ws) = ws
words_of (forget t) = t ∷ []
words_of (terminal shard cut is_stamped until) = shard ∷ cut ∷ is_stamped ∷ until ∷ []
words_of (stamp shard until) = shard ∷ until ∷ []
words_of (prune now room) = now ∷ []
words_of (bundle ws) = ws

abbrev pub encode : List Call → List ℕ
encode [] = []
encode (c ∷ cs) = kind_of c ∷ lent_to c ∷ length (words_of c) ∷ (words_of c ++ encode cs)

-- the lists that the calls are lent are no longer than cap
abbrev pub Roomy : ℕ → List Call → Type 0
Roomy cap cs = Every (λ c. lent_to c ≤ cap) cs

-- the list of which every call is lent the front, after the calls: what one outcome writes, and then what the next
abbrev pub lent_after : List Call → Plain → List ℕ → List ℕ
lent_after [] p list = list
lent_after (c ∷ cs) p list = lent_after cs (step c p).ledger (written (step c p).words list)

-- what a list of calls hands back and leaves in that list
pub record Ran (calls : List Call) (p : Plain) (lent list : List ℕ) (r : Ledger) : Type 0 where
  pub held : Held r
  pub ledger : contents r ≡ run calls p
  pub wrote : list ≡ lent_after calls p lent
