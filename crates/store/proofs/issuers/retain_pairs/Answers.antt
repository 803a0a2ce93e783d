-- Both arrays keep the same places, so that the pairs kept are those whose flag is up.
use Rattle.std.proofs.Common.{ℕ, ◌≡◌, ◌≤◌, ◌∙◌, Bool, List, sym, ap, length, take, arith, rules}
use Rattle.std.proofs.Math.Seq.{length-take-le}
use Rattle.lists.specs.Lists.{keep_by, zip_by}
use Rattle.lists.specs.Arrays.{Kept}
use Rattle.lists.proofs.Zip.{kept-length, kept-pairs}
use Rattle.store.specs.Stored.{pair}
use Rattle.store.specs.Fronts.{front_pairs}
use Rattle.store.proofs.Kept.{flagged}
use Rattle.store.proofs.Fronts.{same_many}
use Rattle.store.proofs.issuers.retain_pairs.Goals as goal

kept : (rs ts us vs : List ℕ) (n m k : ℕ) (stay : List Bool) → n ≤ length rs → n ≤ length ts → n ≤ length stay →
    Kept (take n stay) rs us m → Kept (take n stay) ts vs k → front_pairs us vs k ≡ keep_by (take n stay) (front_pairs rs ts n)
kept rs ts us vs n m k stay h i j o p =
    let f = take n stay in
    let many : length f ≡ n = length-take-le n stay j in
    let same = same_many rs ts n h i in
    let o' = flagged stay n rs us m j o in
    let p' = flagged stay n ts vs k j p in
    let m' : length (take m us) ≡ m = length-take-le m us (omega (arith, o.room, o.size, many)) in
    let k' : length (take k vs) ≡ k = length-take-le k vs (omega (arith, p.room, p.size, many)) in
    let e : k ≡ m = sym k' ∙ ap length p' ∙ sym (kept-length f (take n rs) (take n ts) same) ∙ ap length (sym o') ∙ m' in
    ap (λ l. zip_by pair l (take k vs)) (ap (λ a. take a us) e ∙ o')
    ∙ ap (zip_by pair (keep_by f (take n rs))) p'
    ∙ kept-pairs pair f (take n rs) (take n ts) same

pub returns : goal.returns
returns c =
    let o = c.retain.ensures in
    let p = c.retain-2.ensures in
    record {
      room = omega (arith, p.room, length-take-le c.args.n c.args.stay.now (search rules), c.requires);
      lengths = (o.size ∙ search rules, p.size ∙ search rules);
      pairs = kept c.args.records.now c.args.transactions.now _ _ c.args.n _ _ c.args.stay.now (search rules) (search rules) (search rules) o p;
    }
