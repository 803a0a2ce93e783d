-- How the words of a list of calls are taken in turn, and that every list of calls has words: what is written of a call is read back.
-- Assumes nothing.
use Prim.Native.Nat.{ℕ, zero, suc, ◌+◌, ◌-◌, ◌≤◌, ◌<◌, min}
use mathlib.Core.Path.{◌≡◌, refl, sym, ap, ap₂, ◌∙◌}
use mathlib.Core.Bool.{Bool, true, false}
use mathlib.Core.List.{List, [], ◌∷◌, ◌++◌}
use native.Mathlib.Omega.{arith}
use lib.Dec.{leb}
use borrow.Author.Tests.{leb-true, leb-false}
use lib.ListN.{length, take, drop, get_or, length-drop, drop_of_length-le}
use lib.Seq.{drop-drop, get_or-drop, take_all, take-append_seam, drop-append_seam}
use Rattle.lists.proofs.Cuts.{rest_more}
use Rattle.rules.specs.Plain.{Plain}
use Rattle.rules.specs.Words.{word}
use Rattle.rules.specs.Calls.{Call, admission, absence, certify, abandonment, settled, returned, closes, fated, finalization, forget, terminal, stamp, prune, bundle}
use Rattle.dispatch.specs.Changing.{call_of}
use Rattle.claim.specs.declared.RunAndPruned.{RunAndPruned}
use Rattle.claim.specs.Claim.{Lent, Claim}
use Rattle.claim.specs.Calls.{decode_from, decode, kind_of, lent_to, words_of, encode, Roomy}

drop_min : (l : List ℕ) (k j : ℕ) → j ≡ min k (length l) → drop j l ≡ drop k l
drop_min l k j e = go (leb k (length l)) refl
  where
    go : (b : Bool) → leb k (length l) ≡ b → drop j l ≡ drop k l
    go true t = let h : j ≡ k = omega (arith, leb-true k (length l) t) in rw h
    go false t =
        drop_of_length-le l {i = j} (omega (arith, leb-false k (length l) t)) ∙ sym (drop_of_length-le l {i = k} (omega (arith, leb-false k (length l) t)))

take_min : (l : List ℕ) (k j : ℕ) → j ≡ min k (length l) → take j l ≡ take k l
take_min l k j e = go (leb k (length l)) refl
  where
    go : (b : Bool) → leb k (length l) ≡ b → take j l ≡ take k l
    go true t = let h : j ≡ k = omega (arith, leb-true k (length l) t) in rw h
    go false t =
        take_all j l (omega (arith, leb-false k (length l) t)) ∙ sym (take_all k l (omega (arith, leb-false k (length l) t)))

decode-skip : (limit k : ℕ) (ws : List ℕ) → decode_from limit k ws ≡ decode limit (drop k ws)
decode-skip limit zero [] = refl
decode-skip limit (suc k) [] = refl
decode-skip limit zero (w ∷ ws) = refl
decode-skip limit (suc k) (w ∷ ws) = decode-skip limit k ws

-- the next call, and the words after it
pub decode-next : (limit : ℕ) (ws : List ℕ) (at from end : ℕ) → at < length ws → from ≡ min (at + 3) (length ws) →
    end ≡ from + min (word (at + 2) ws) (length ws - from) →
    decode limit (drop at ws) ≡ call_of (word at ws) (take (end - from) (drop from ws)) (min (word (at + 1) ws) limit) ∷ decode limit (drop end ws)
decode-next limit ws at from end h f e =
    let n : ℕ = word (at + 2) ws in
    let rest : List ℕ = drop (at + 1) ws in
    let a1 : at + 1 + 0 ≡ at + 1 = omega arith in
    let a2 : at + 1 + 1 ≡ at + 2 = omega arith in
    let a3 : at + 1 + 2 ≡ at + 3 = omega arith in
    let body : drop from ws ≡ drop 2 rest = drop_min ws (at + 3) from f ∙ sym (drop-drop 2 (at + 1) ws ∙ ap (λ k. drop k ws) a3) in
    let room : word 0 rest ≡ word (at + 1) ws = get_or-drop (at + 1) ws 0 0 ∙ ap (λ k. get_or ws k 0) a1 in
    let many : word 1 rest ≡ n = get_or-drop (at + 1) ws 1 0 ∙ ap (λ k. get_or ws k 0) a2 in
    let part : take (end - from) (drop from ws) ≡ take n (drop 2 rest) =
    take_min (drop from ws) n (end - from) (simp length-drop (omega arith)) ∙ ap (take n) body in
    let past : drop end ws ≡ drop (2 + n) rest =
    ap (λ k. drop k ws) e ∙ sym (drop-drop (min n (length ws - from)) from ws)
    ∙ drop_min (drop from ws) n (min n (length ws - from)) (simp length-drop) ∙ ap (drop n) body ∙ drop-drop n 2 rest in
    let next : call_of (word at ws) (take (word 1 rest) (drop 2 rest)) (min (word 0 rest) limit) ≡
    call_of (word at ws) (take (end - from) (drop from ws)) (min (word (at + 1) ws) limit) =
    rw (room, many, part) in
    ap (decode limit) (rest_more 0 ws at h)
    ∙ ap₂ ◌∷◌ next (decode-skip limit (2 + word 1 rest) rest ∙ ap (decode limit) (ap (λ k. drop (2 + k) rest) many ∙ sym past))

-- what is written of one call is that call
call_of_lem : (limit : ℕ) (c : Call) → lent_to c ≤ limit → call_of (kind_of c) (words_of c) (min (lent_to c) limit) ≡ c
unfolding call_of
call_of_lem limit (admission ws) h = refl
call_of_lem limit (absence t shard key) h = refl
call_of_lem limit (certify t code) h = refl
call_of_lem limit (abandonment ws) h = refl
call_of_lem limit (settled r t) h = refl
call_of_lem limit (returned r t) h = refl
call_of_lem limit (closes room) h = let m : min room limit ≡ room = omega arith in ap closes m
call_of_lem limit (fated t) h = refl
call_of_lem limit (finalization ws) h = refl
call_of_lem limit (forget t) h = refl
call_of_lem limit (terminal shard cut is_stamped until) h = refl
call_of_lem limit (stamp shard until) h = refl
call_of_lem limit (prune now room) h = let m : min room limit ≡ room = omega arith in ap (prune now) m
call_of_lem limit (bundle ws) h = refl

-- every list of calls is held by some words
pub decode-encode : (limit : ℕ) (cs : List Call) → Roomy limit cs → decode limit (encode cs) ≡ cs
decode-encode limit [] r = refl
decode-encode limit (c ∷ cs) r =
    let ws : List ℕ = words_of c in
    let two : 2 + length ws ≡ suc (suc (length ws)) = omega arith in
    let here : call_of (kind_of c) (take (length ws) (ws ++ encode cs)) (min (lent_to c) limit) ≡ c =
    ap (λ l. call_of (kind_of c) l (min (lent_to c) limit)) (take-append_seam ws (encode cs)) ∙ call_of_lem limit c r.0 in
    let past : drop (2 + length ws) (lent_to c ∷ length ws ∷ (ws ++ encode cs)) ≡ encode cs = rw (two, drop-append_seam ws (encode cs)) in
    let rest : decode_from limit (2 + length ws) (lent_to c ∷ length ws ∷ (ws ++ encode cs)) ≡ cs =
    decode-skip limit (2 + length ws) (lent_to c ∷ length ws ∷ (ws ++ encode cs)) ∙ ap (decode limit) past ∙ decode-encode limit cs r.1 in
    ap₂ ◌∷◌ here rest

-- so the claim of some words is the claim of every list of calls
pub of_every_list : (start : Plain) (limit : ℕ) (cs : List Call) (clocks : List ℕ) (k : ℕ) (call_list report_list count_list : Lent) (r : RunAndPruned) → Roomy limit cs →
    Claim start (decode limit (encode cs)) clocks k call_list report_list count_list r → Claim start cs clocks k call_list report_list count_list r
of_every_list start limit cs clocks k call_list report_list count_list r h c = rw (decode-encode limit cs h) at c
