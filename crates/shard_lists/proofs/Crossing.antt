-- The edges and the routes still to come at a turn, and what of their shards is then still to be gathered.
-- Assumes nothing.
use Prim.Native.Nat.{ℕ, ◌+◌, ◌≤◌, ◌<◌}
use mathlib.Core.Path.{◌≡◌, sym, ap, ◌∙◌}
use mathlib.Core.Bool.{true, false}
use mathlib.Core.List.{List, ◌∷◌, ◌++◌, map}
use native.Mathlib.Omega.{arith}
use lib.Dec.{eqb}
use lib.ListN.{length, take, drop, get_or}
use lib.Seq.{length-take-le, get_or-take}
use Rattle.lists.specs.Lists.{keep, concat_map, include_all, set_of, total, self, part}
use Rattle.lists.proofs.Distinct.{every_at}
use Rattle.lists.proofs.Cuts.{rest_more}
use Rattle.rules.specs.Numbers.{record_key, owns}
use Rattle.rules.specs.Plain.{Edge, is_remote, shard_of}
use Rattle.rules.specs.Readings.{claimants_of}
use Rattle.entry.specs.declared.Entry.{Entry}
use Rattle.entry.specs.Entry.{plain_entry, edges_of}
use Rattle.store.specs.declared.departures.Departures.{Departures}
use Rattle.store.specs.Departures.{on_file}
use Rattle.entry.proofs.Shape.{fits_of}
use Rattle.entry.proofs.Edges.{edge_at, issuing, edges-cons, edges-end}
use Rattle.shard_lists.specs.declared.set.Set.{Set}
use Rattle.rules.specs.Over.{is_over}
use Rattle.shard_lists.specs.Sets.{front, Holds, shards_over, departed_over, counterparts_at}
use Rattle.lists.proofs.Sets.{keep_both, gathered_once}
use Rattle.shard_lists.proofs.Gather.{Sofar, ended}

-- the destinations of the edges from local with a key
abbrev pub claimed : ℕ → ℕ → List Edge → List ℕ
claimed local r es = concat_map (λ (g : Edge). g.to) (keep (issuing local r) es)

module _ (e : Entry) where
  pub size_few : (i : ℕ) → i < e.edges_len → get_or e.sizes i 0 ≤ 4
  size_few i h =
      let n = e.edges_len in
      let fits = fits_of e in
      rw (get_or-take n e.sizes i 0 h)
      at (every_at (λ m. m ≤ 4) 0 i (take n e.sizes) (omega (arith, length-take-le n e.sizes (omega (arith, fits.edges_len, fits.sizes)))) fits.few)

  module _ (local r : ℕ) where
    pub claim_in : (i from : ℕ) → i < e.edges_len → from ≡ total self (take i e.sizes) → issuing local r (edge_at e i) ≡ true →
        claimed local r (drop i (edges_of e)) ≡ part from (get_or e.sizes i 0) e.to ++ claimed local r (drop (i + 1) (edges_of e))
    claim_in i from h q t = rw (q, edges-cons e (fits_of e) i h, t)

    pub claim_out : (i : ℕ) → i < e.edges_len → issuing local r (edge_at e i) ≡ false →
        claimed local r (drop i (edges_of e)) ≡ claimed local r (drop (i + 1) (edges_of e))
    claim_out i h t = rw (edges-cons e (fits_of e) i h, t)

    pub claimed_all : {most : ℕ} {s : Set} (i : ℕ) → e.edges_len ≤ i →
        Sofar (set_of (claimed local r (edges_of e))) (claimed local r (drop i (edges_of e))) most s → Holds (claimants_of local r (plain_entry e)) s
    unfolding plain_entry
    claimed_all {most} {s} i h q =
        let two = keep_both (λ (g : Edge). eqb g.from local) (λ (g : Edge). eqb (record_key g.id) r) (edges_of e) in
        rw two (ended (claimed local r (drop i (edges_of e))) (ap (claimed local r) (edges-end e (fits_of e) i h)) q)

-- the remote routes still to come

module _ (a : List ℕ) (local : ℕ) where
  abbrev pub far_from : ℕ → List ℕ
  far_from i = keep (is_remote local) (drop i a)

  pub far_in : (i : ℕ) → i < length a → owns local (get_or a i 0) ≡ false → far_from i ≡ get_or a i 0 ∷ far_from (i + 1)
  far_in i h t = rw (rest_more 0 a i h, t)

  pub far_out : (i : ℕ) → i < length a → owns local (get_or a i 0) ≡ true → far_from i ≡ far_from (i + 1)
  far_out i h t = rw (rest_more 0 a i h, t)

-- the departed shards, and the trie's put in among them, are the counterparts
pub counterparts_once : (e : Entry) (local : ℕ) (x : Departures) (f : ℕ → ℕ) (far : List ℕ) (s t : Set) →
    far ≡ keep (is_remote local) (take e.routes_len e.routes) → Holds (departed_over e.anchor.0 far (on_file x)) s →
    Holds (include_all self (map f far) (front s)) t → Holds (counterparts_at f local (on_file x) (plain_entry e)) t
unfolding plain_entry
counterparts_once e local x f far s t q h k =
    record {
      holds =
          k.holds
          ∙ ap (include_all self (map f far)) h.holds
          ∙ sym (gathered_once shard_of f (is_over e.anchor.0) (on_file x) x.rising far)
          ∙ ap (λ l. set_of (concat_map (λ (r : ℕ). f r ∷ shards_over e.anchor.0 r (on_file x)) l)) q;
    }
