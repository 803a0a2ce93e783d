-- A cell that was read already stays as it is; else it is put in where it ranks.
use Rattle.std.proofs.Common.{refl, sym, ◌∙◌, arith, rules, tests, take}
use Rattle.lists.proofs.Loops.{map-rank}
use Rattle.entry.specs.Entry.{plain_entry}
use Rattle.lists.proofs.Order.{include-known}
use Rattle.rules.specs.Plain.{absence_key}
use Rattle.entry.specs.Entry.{absence, absences_of, below, plain_absence}
use Rattle.entry.proofs.Shape.{fits_of}
use Rattle.entry.proofs.Put.{absence-room, absence-rank, absence-put}
use Rattle.entry.proofs.Entry.read_absent.Goals as goal

pub returns-then-is_read : goal.returns-then-is_read
unfolding plain_entry
returns-then-is_read c =
    let a = c.args in
    record {
      plain = rw (include-known absence_key (absence a.shard.0 a.key) (absences_of a.self.now) c.requires.rising (sym c.is_read.ensures ∙ c.if-is_read.true));
    }

pub insert_at-requires : goal.insert_at-requires
unfolding plain_entry
insert_at-requires c =
    let a = c.args in
    let few = absence-room a.self.now a.shard.0 a.key c.requires (sym c.is_read.ensures ∙ c.if-is_read.false) in
    let k = c.rank-k.ensures (λ x. below (absence a.shard.0 a.key) (plain_absence x)) (λ x b q. search (rules, tests)) ∙ sym (map-rank plain_absence (below (absence a.shard.0 a.key)) (take a.self.now.absences_len a.self.now.absences)) in
    (omega (arith, k, absence-rank a.self.now a.shard.0 a.key c.requires), omega (arith, few, (fits_of a.self.now).absences))

pub returns : goal.returns
unfolding plain_entry
returns c =
    let a = c.args in
    let new = sym c.is_read.ensures ∙ c.if-is_read.false in
    let few = absence-room a.self.now a.shard.0 a.key c.requires new in
    let k = c.rank-k.ensures (λ x. below (absence a.shard.0 a.key) (plain_absence x)) (λ x b q. search (rules, tests)) ∙ sym (map-rank plain_absence (below (absence a.shard.0 a.key)) (take a.self.now.absences_len a.self.now.absences)) in
    record {
      plain = rw (absence-put a.self.now a.shard.0 a.key c.requires _ _ _ refl new k c.insert_at.ensures);
    }
