-- Kind by kind; the first that is refused ends it.
use Rattle.std.specs.Prelude.{Ok, Err}
use Rattle.std.proofs.Common.{ℕ, ◌≡◌, List, [], ◌∷◌, subst, arith, rules}
use Rattle.words.specs.Bundle.{form_refusal}
use Rattle.ledger.specs.declared.Ledger.{Ledger}
use Rattle.ledger.specs.Contents.{contents, Held}
use Rattle.bundles.specs.Doing.{Did, AllItems}
use Rattle.bundles.proofs.Joined.{of_kind, from_kind, Stage, none_yet, plus, malformed, begun, kind_done, kind_refused, all_done}
use Rattle.bundles.proofs.all_items.Goals as goal

-- where the bundle stands after each kind, from what was said of it and of those before it
module _ (ws : List ℕ) (f : form_refusal ws ≡ 0) (l₀ : Ledger) (h : Held l₀) where
  abbrev Next : ℕ → Ledger → ℕ → Ledger → Type 0
  Next k l n m = Did k (of_kind ws k) (contents l) (Ok n) m

  first : {l₁ : Ledger} {n₁ : ℕ} → Next 1 l₀ n₁ l₁ → Stage ws (from_kind ws 2 (from_kind ws 3 (from_kind ws 4 (from_kind ws 5 [])))) (contents l₀) l₁ (plus none_yet 1 n₁)
  first d₁ = kind_done ws f (contents l₀) 1 _ _ _ (begun ws l₀ h) _ _ d₁

  second : {l₁ l₂ : Ledger} {n₁ n₂ : ℕ} → Next 1 l₀ n₁ l₁ → Next 2 l₁ n₂ l₂ → Stage ws (from_kind ws 3 (from_kind ws 4 (from_kind ws 5 []))) (contents l₀) l₂ (plus (plus none_yet 1 n₁) 2 n₂)
  second d₁ d₂ = kind_done ws f (contents l₀) 2 _ _ _ (first d₁) _ _ d₂

  third : {l₁ l₂ l₃ : Ledger} {n₁ n₂ n₃ : ℕ} → Next 1 l₀ n₁ l₁ → Next 2 l₁ n₂ l₂ → Next 3 l₂ n₃ l₃ → Stage ws (from_kind ws 4 (from_kind ws 5 [])) (contents l₀) l₃ (plus (plus (plus none_yet 1 n₁) 2 n₂) 3 n₃)
  third d₁ d₂ d₃ = kind_done ws f (contents l₀) 3 _ _ _ (second d₁ d₂) _ _ d₃

  fourth : {l₁ l₂ l₃ l₄ : Ledger} {n₁ n₂ n₃ n₄ : ℕ} → Next 1 l₀ n₁ l₁ → Next 2 l₁ n₂ l₂ → Next 3 l₂ n₃ l₃ → Next 4 l₃ n₄ l₄ → Stage ws (from_kind ws 5 []) (contents l₀) l₄ (plus (plus (plus (plus none_yet 1 n₁) 2 n₂) 3 n₃) 4 n₄)
  fourth d₁ d₂ d₃ d₄ = kind_done ws f (contents l₀) 4 _ _ _ (third d₁ d₂ d₃) _ _ d₄

  fifth : {l₁ l₂ l₃ l₄ l₅ : Ledger} {n₁ n₂ n₃ n₄ n₅ : ℕ} → Next 1 l₀ n₁ l₁ → Next 2 l₁ n₂ l₂ → Next 3 l₂ n₃ l₃ → Next 4 l₃ n₄ l₄ → Next 5 l₄ n₅ l₅ → Stage ws [] (contents l₀) l₅ (plus (plus (plus (plus (plus none_yet 1 n₁) 2 n₂) 3 n₃) 4 n₄) 5 n₅)
  fifth d₁ d₂ d₃ d₄ d₅ = kind_done ws f (contents l₀) 5 _ _ _ (fourth d₁ d₂ d₃ d₄) _ _ d₅

pub returns-in_err-bundle : goal.returns-in_err-bundle
returns-in_err-bundle c =
    let said : c.from_residual.result ≡ Err c.in_err-bundle.field-0.0 = search rules in
    rw said (malformed c.args.words.now c.in_err-bundle.field-0.0 (contents c.args.ledger.now) c.args.ledger.now c.in_err-bundle.ensures.refused)

pub returns-in_err-items : goal.returns-in_err-items
returns-in_err-items c =
    let l = c.args.ledger.now in
    let b = c.in_ok-bundle.bundle in
    let ws = b.words.now in
    let said : c.from_residual-in_err-items.result ≡ Err c.in_err-items.field-0.0 = search rules in
    rw said (subst (λ w. AllItems w (contents l) (Err c.in_err-items.field-0.0) c.items.new.ledger) c.in_ok-bundle.ensures.read (kind_refused ws b.formed (contents l) 1 _ _ _ (begun ws l c.requires) _ _ c.in_err-items.ensures))

pub returns-in_err-rebuilt : goal.returns-in_err-rebuilt
returns-in_err-rebuilt c =
    let l = c.args.ledger.now in
    let b = c.in_ok-bundle.bundle in
    let ws = b.words.now in
    let said : c.from_residual-in_err-rebuilt.result ≡ Err c.in_err-rebuilt.field-0.0 = search rules in
    rw said (subst (λ w. AllItems w (contents l) (Err c.in_err-rebuilt.field-0.0) c.items-2.new.ledger) c.in_ok-bundle.ensures.read (kind_refused ws b.formed (contents l) 2 _ _ _ (first ws b.formed l c.requires c.in_ok-items.ensures) _ _ c.in_err-rebuilt.ensures))

pub returns-in_err-released : goal.returns-in_err-released
returns-in_err-released c =
    let l = c.args.ledger.now in
    let b = c.in_ok-bundle.bundle in
    let ws = b.words.now in
    let said : c.from_residual-in_err-released.result ≡ Err c.in_err-released.field-0.0 = search rules in
    rw said (subst (λ w. AllItems w (contents l) (Err c.in_err-released.field-0.0) c.items-3.new.ledger) c.in_ok-bundle.ensures.read (kind_refused ws b.formed (contents l) 3 _ _ _ (second ws b.formed l c.requires c.in_ok-items.ensures c.in_ok-rebuilt.ensures) _ _ c.in_err-released.ensures))

pub returns-in_err-admitted : goal.returns-in_err-admitted
returns-in_err-admitted c =
    let l = c.args.ledger.now in
    let b = c.in_ok-bundle.bundle in
    let ws = b.words.now in
    let said : c.from_residual-in_err-admitted.result ≡ Err c.in_err-admitted.field-0.0 = search rules in
    rw said (subst (λ w. AllItems w (contents l) (Err c.in_err-admitted.field-0.0) c.items-4.new.ledger) c.in_ok-bundle.ensures.read (kind_refused ws b.formed (contents l) 4 _ _ _ (third ws b.formed l c.requires c.in_ok-items.ensures c.in_ok-rebuilt.ensures c.in_ok-released.ensures) _ _ c.in_err-admitted.ensures))

pub returns-in_err-items-2 : goal.returns-in_err-items-2
returns-in_err-items-2 c =
    let l = c.args.ledger.now in
    let b = c.in_ok-bundle.bundle in
    let ws = b.words.now in
    let said : c.from_residual-in_err-items-2.result ≡ Err c.in_err-items-2.field-0.0 = search rules in
    rw said (subst (λ w. AllItems w (contents l) (Err c.in_err-items-2.field-0.0) c.items-5.new.ledger) c.in_ok-bundle.ensures.read (kind_refused ws b.formed (contents l) 5 _ _ _ (fourth ws b.formed l c.requires c.in_ok-items.ensures c.in_ok-rebuilt.ensures c.in_ok-released.ensures c.in_ok-admitted.ensures) _ _ c.in_err-items-2.ensures))

pub returns : goal.returns
returns c =
    let l = c.args.ledger.now in
    let b = c.in_ok-bundle.bundle in
    let ws = b.words.now in
    let x = c.in_ok-admitted.admitted in
    let y = c.in_ok-rebuilt.rebuilt in
    let z = c.in_ok-released.released in
    subst (λ w. AllItems w (contents l) (Ok (x ∷ y ∷ z ∷ [])) c.items-5.new.ledger) c.in_ok-bundle.ensures.read
    (all_done ws b.formed (contents l) c.items-5.new.ledger _ (fifth ws b.formed l c.requires c.in_ok-items.ensures c.in_ok-rebuilt.ensures c.in_ok-released.ensures c.in_ok-admitted.ensures c.in_ok-items-2.ensures) x y z (omega arith) (omega arith) (omega arith))
