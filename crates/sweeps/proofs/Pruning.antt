-- Prune's loops: what each turn leaves, for any tests of who stands and who is told of, any row of words and any test of who holds what.
-- Assumes nothing.
use Prim.Native.Nat.{ℕ, zero, suc, ◌+◌, ◌*◌, ◌≤◌, ◌<◌}
use mathlib.Core.Path.{◌≡◌, refl, sym, ap, ◌∙◌}
use mathlib.Core.Bool.{Bool, true, false, true≢false, not, ◌||◌}
use mathlib.Core.List.{List, [], ◌∷◌, ◌++◌, map, append_assoc, append-nil}
use native.Mathlib.Omega.{arith}
use native.Mathlib.Numerals.{add-one}
use lib.ListN.{length, take, drop, get_or, set, replicate, length-set, length-append}
use lib.Seq.{sets, sets-eq, length-sets, take_at, take-suc-set, take-set-lt, drop-set-lt, length-take-le, append_snoc, take_all}
use Rattle.lists.specs.Lists.{keep, any, zip_by, concat_map, Every}
use Rattle.lists.proofs.Tests.{or_assoc, or_false}
use Rattle.lists.proofs.Loops.{rest-cons, rest_end}
use Rattle.lists.proofs.Cuts.{rest_more, rest-none}
use Rattle.lists.proofs.Counting.{every_same, fill_next}
use Rattle.lists.proofs.Maps.{put_back}
use Rattle.rules.specs.Plain.{Entry, Departure}
use Rattle.rules.specs.Prune.{holds}
use Rattle.sweeps.specs.declared.prune.Pruning.{Pruning}
use Rattle.sweeps.specs.Pruning.{or_holds}

-- The flags of the departures: those before j are set, those from j on still to come.
module _ (local : ℕ) (e : Entry) (ds : List Departure) (n : ℕ) where
  abbrev pub marking : List Bool → ℕ → List Bool
  marking out j = take j out ++ zip_by (or_holds local e) (drop j (take n out)) (drop j ds)

  module _ (out : List Bool) (j : ℕ) (h₂ : n ≤ length out) (h₃ : length ds ≡ n) where
    pub mark_next : (d : Departure) (y : Bool) → j < n → y ≡ get_or out j false || holds local (get_or ds j d) e → marking (set out j y) (j + 1) ≡ marking out j
    mark_next d y h₁ q =
        rw (
          take-set-lt n out j y h₁,
          drop-set-lt (j + 1) (take n out) j y (omega arith),
          rest-cons false out j n h₁ h₂,
          rest_more d ds j (omega (arith, h₃)),
          add-one j,
          take-suc-set out j y (omega arith),
          append_snoc (take j out) y,
          q,
        ) refl

    pub mark_end : n ≤ j → j ≤ n → marking out j ≡ take n out
    mark_end h₁ h₄ =
        let z : j ≡ n = omega arith in
        rw (rest_end out j n h₁ h₂, z) (append-nil (take n out))

-- flags joined twice, flags that are all down, and nothing joined
join_twice : (f g : Departure → Bool) (bs : List Bool) (ds : List Departure) →
    zip_by (λ b d. b || g d) (zip_by (λ b d. b || f d) bs ds) ds ≡ zip_by (λ b d. b || (f d || g d)) bs ds
join_twice f g [] ds = refl
join_twice f g (b ∷ bs) [] = refl
join_twice f g (b ∷ bs) (d ∷ ds) = rw (or_assoc b (f d) (g d), join_twice f g bs ds)

join_down : (f : Departure → Bool) (m : ℕ) (ds : List Departure) → length ds ≤ m → zip_by (λ b d. b || f d) (take (length ds) (replicate m false)) ds ≡ map f ds
join_down f m [] h = refl
join_down f zero (d ∷ ds) h = absurd (omega arith)
join_down f (suc m) (d ∷ ds) h = ap (λ l. f d ∷ l) (join_down f m ds (omega arith))

join_none : (bs : List Bool) (ds : List Departure) → length bs ≡ length ds → zip_by (λ b d. b || false) bs ds ≡ bs
join_none [] ds h = refl
join_none (b ∷ bs) [] h = absurd (omega arith)
join_none (b ∷ bs) (d ∷ ds) h = rw (or_false b, join_none bs ds (omega arith))

-- flags that are all up, whatever they are joined with
join_up : (f : Departure → Bool) (bs : List Bool) (ds : List Departure) → length bs ≡ length ds → any not bs ≡ false → zip_by (λ b d. b || f d) bs ds ≡ bs
join_up f [] ds h u = refl
join_up f (b ∷ bs) [] h u = absurd (omega arith)
join_up f (true ∷ bs) (d ∷ ds) h u = ap (λ l. true ∷ l) (join_up f bs ds (omega arith) u)
join_up f (false ∷ bs) (d ∷ ds) h u = absurd (true≢false u)

-- a row of three put behind the words
row_on : (w row : List ℕ) (a : ℕ) → length row ≡ 3 → a + 3 ≤ length w → take (a + 3) (sets w a row) ≡ take a w ++ row
row_on w row a e h =
    let size : length (take a w ++ row) ≡ a + 3 = omega (arith, e, length-append (take a w) row, length-take-le a w (omega arith)) in
    ap (take (a + 3)) (sets-eq row w a (omega (arith, e))) ∙ take_at (take a w ++ row) (drop (a + length row) w) (a + 3) size

-- The entries judged: those before i are, and those from i on are still to come.
module _ (stands tells : Entry → Bool) (row : Entry → List ℕ) (held : Departure → Entry → Bool) where
  abbrev pub falling : List Entry → List Entry
  falling es = keep (λ e. not (stands e)) es

  abbrev pub reported : List Entry → List Entry
  reported es = keep tells (falling es)

  pub record Judging (es : List Entry) (ds : List Departure) (r : Pruning) (i : ℕ) : Type 0 where
    pub high : i ≤ length es
    pub few : r.reports ≤ i
    pub less : r.fallen ≤ i
    pub stay_length : length r.stay ≡ 48
    pub needed_length : length r.needed ≡ 32
    pub words_length : length r.words ≡ 144
    pub shut : r.some_unneeded ≡ false → any not (take (length ds) r.needed) ≡ false
    pub clear : Every (λ b. b ≡ false) (drop i r.stay)
    pub flags : take i r.stay ≡ map stands (take i es)
    pub needs : zip_by (λ b d. b || any (held d) (keep stands (drop i es))) (take (length ds) r.needed) ds ≡ map (λ d. any (held d) (keep stands es)) ds
    pub rows : take (3 * r.reports) r.words ++ concat_map row (reported (drop i es)) ≡ concat_map row (reported es)
    pub count : r.reports + length (reported (drop i es)) ≡ length (reported es)
    pub gone : r.fallen + length (falling (drop i es)) ≡ length (falling es)

  module _ (es : List Entry) (ds : List Departure) (few-ds : length ds ≤ 32) where
    pub judging_none : Judging es ds (record { stay = replicate 48 false; needed = replicate 32 false; some_unneeded = true; words = replicate 144 0; reports = 0; fallen = 0 }) 0
    judging_none =
        record {
          high = omega arith;
          few = omega arith;
          less = omega arith;
          stay_length = refl;
          needed_length = refl;
          words_length = refl;
          shut = λ e. absurd (true≢false e);
          clear = every_same (λ b. b ≡ false) 48 false refl;
          flags = refl;
          needs = join_down (λ d. any (held d) (keep stands es)) 32 ds few-ds;
          rows = refl;
          count = omega arith;
          gone = omega arith;
        }

    module _ (r : Pruning) (i : ℕ) (v : Judging es ds r i) where
      module _ (small : length es ≤ 48) (e : Entry) (q : i < length es) (cons : drop i es ≡ e ∷ drop (i + 1) es) where
        here_clear : (get_or r.stay i false ≡ false) × Every (λ b. b ≡ false) (drop (i + 1) r.stay)
        here_clear = rw (rest_more false r.stay i (omega (arith, v.stay_length))) at v.clear

        flags_on : (b : Bool) → b ≡ stands e → take (i + 1) (set r.stay i b) ≡ map stands (take (i + 1) es)
        flags_on b t = fill_next stands r.stay es i e b (omega (arith, v.stay_length)) q cons t v.flags

        -- the flag of one that falls is down already
        flags_down : stands e ≡ false → take (i + 1) r.stay ≡ map stands (take (i + 1) es)
        flags_down t =
            let same : set r.stay i false ≡ r.stay = ap (set r.stay i) (sym here_clear.0) ∙ put_back r.stay i false in
            rw same at (flags_on false (sym t))

        pub turn_stands : (needed : List Bool) (some_unneeded : Bool) → length needed ≡ 32 → (some_unneeded ≡ false → any not (take (length ds) needed) ≡ false) → stands e ≡ true →
            take (length ds) needed ≡ zip_by (λ b d. b || held d e) (take (length ds) r.needed) ds →
            Judging es ds (record { stay = set r.stay i true; needed = needed; some_unneeded = some_unneeded; words = r.words; reports = r.reports; fallen = r.fallen }) (i + 1)
        turn_stands needed some_unneeded size shut t n =
            record {
              high = omega arith;
              few = omega (arith, v.few);
              less = omega (arith, v.less);
              stay_length = length-set r.stay i true ∙ v.stay_length;
              needed_length = size;
              words_length = v.words_length;
              shut = shut;
              clear = rw (drop-set-lt (i + 1) r.stay i true (omega arith)) here_clear.1;
              flags = flags_on true (sym t);
              needs = rw n (join_twice (λ d. held d e) (λ d. any (held d) (keep stands (drop (i + 1) es))) (take (length ds) r.needed) ds) ∙ rw (cons, t) at v.needs;
              rows = rw (cons, t) at v.rows;
              count = rw (cons, t) at v.count;
              gone = rw (cons, t) at v.gone;
            }

        -- every flag is up, so nothing is asked of one that stands
        pub turn_idle : r.some_unneeded ≡ false → stands e ≡ true →
            Judging es ds (record { stay = set r.stay i true; needed = r.needed; some_unneeded = r.some_unneeded; words = r.words; reports = r.reports; fallen = r.fallen }) (i + 1)
        turn_idle o t =
            turn_stands r.needed r.some_unneeded v.needed_length v.shut t
            (sym (join_up (λ d. held d e) (take (length ds) r.needed) ds (length-take-le (length ds) r.needed (omega (arith, v.needed_length))) (v.shut o)))

        pub turn_falls : stands e ≡ false → tells e ≡ false →
            Judging es ds (record { stay = r.stay; needed = r.needed; some_unneeded = r.some_unneeded; words = r.words; reports = r.reports; fallen = r.fallen + 1 }) (i + 1)
        turn_falls t f =
            record {
              high = omega arith;
              few = omega (arith, v.few);
              less = omega (arith, v.less);
              stay_length = v.stay_length;
              needed_length = v.needed_length;
              words_length = v.words_length;
              shut = v.shut;
              clear = here_clear.1;
              flags = flags_down t;
              needs = rw (cons, t) at v.needs;
              rows = rw (cons, t, f) at v.rows;
              count = rw (cons, t, f) at v.count;
              gone = omega (arith, rw (cons, t) at v.gone);
            }

        pub turn_reported : (words : List ℕ) → stands e ≡ false → tells e ≡ true → length (row e) ≡ 3 → words ≡ sets r.words (3 * r.reports) (row e) →
            Judging es ds (record {
              stay = r.stay;
              needed = r.needed;
              some_unneeded = r.some_unneeded;
              words = words;
              reports = r.reports + 1;
              fallen = r.fallen + 1;
            }) (i + 1)
        turn_reported words t f s w =
            let k = r.reports in
            let more : 3 * (k + 1) ≡ 3 * k + 3 = omega arith in
            let rest = concat_map row (reported (drop (i + 1) es)) in
            record {
              high = omega arith;
              few = omega (arith, v.few);
              less = omega (arith, v.less);
              stay_length = v.stay_length;
              needed_length = v.needed_length;
              words_length = ap length w ∙ length-sets r.words (3 * k) (row e) ∙ v.words_length;
              shut = v.shut;
              clear = here_clear.1;
              flags = flags_down t;
              needs = rw (cons, t) at v.needs;
              rows = rw (more, w, row_on r.words (row e) (3 * k) s (omega (arith, v.few, v.words_length)))
                  (append_assoc (take (3 * k) r.words) (row e) rest ∙ rw (cons, t, f) at v.rows);
              count = omega (arith, rw (cons, t, f) at v.count);
              gone = omega (arith, rw (cons, t) at v.gone);
            }

      -- all are judged
      module _ (z : length es ≤ i) where
        pub all_stay : (n : ℕ) → length es ≡ n → take n r.stay ≡ map stands es
        all_stay n e =
            let s : i ≡ n = omega (arith, v.high) in
            ap (λ j. take j r.stay) (sym s) ∙ v.flags ∙ ap (map stands) (take_all i es z)

        pub all-needed : take (length ds) r.needed ≡ map (λ d. any (held d) (keep stands es)) ds
        all-needed =
            sym (join_none (take (length ds) r.needed) ds (length-take-le (length ds) r.needed (omega (arith, v.needed_length))))
            ∙ rw (rest-none es i z) at v.needs

        pub all-rows : take (3 * r.reports) r.words ≡ concat_map row (reported es)
        all-rows = sym (append-nil (take (3 * r.reports) r.words)) ∙ rw (rest-none es i z) at v.rows

        pub all-count : r.reports ≡ length (reported es)
        all-count = omega (arith, rw (rest-none es i z) at v.count)

        pub all-gone : r.fallen ≡ length (falling es)
        all-gone = omega (arith, rw (rest-none es i z) at v.gone)
