-- All slots are there once in the end, as after each turn.
use Rattle.std.proofs.Common.{◌≡◌, ◌≤◌, ◌<◌, ◌∙◌, refl, sym, length, arith, rules}
use Rattle.lists.proofs.Distinct.{flags_end, swap_is}
use Rattle.store.proofs.Shape.{sound_roster}
use Rattle.store.proofs.Keeping.{turn_up, turn_down}
use Rattle.store.proofs.roster.Roster.retain.Goals as goal
use Rattle.store.proofs.roster.Roster.retain.Goals.{then-stay-i, else-stay-i}

pub loop-i-init : goal.loop-i-init
loop-i-init c =
    let s = sound_roster c.args.self in
    record {
      low = omega arith;
      high = omega arith;
      key_length = s.key_length;
      slot_length = s.slot_length;
      within = s.within;
      distinct = s.distinct;
      kept_keys = refl;
      kept_slots = refl;
    }

pub loop-i-preserved : goal.loop-i-preserved
loop-i-preserved c =
    let l = c.loop-i in
    let a = c.args in
    let f : length a.stay ≡ 48 = search rules in
    let h : l.i < a.self.len = omega arith in
    let m : a.self.len ≤ 48 = a.self.room in
    elim c.if-stay-i.branch [
      | then-stay-i w ↦ rw (w.r-is, w.w-is, w.swap.ensures.after, swap_is 0 l.w l.i l.r.1.0 (omega arith) (omega arith)) (turn_up a.self a.self.len a.stay l.r.0 l.r.1.0 l.w l.i l.invariant h m f w.if-stay-i.true)
      | else-stay-i w ↦ rw (w.r-is, w.w-is) (turn_down a.self a.self.len a.stay l.r.0 l.r.1.0 l.w l.i l.invariant h m f w.if-stay-i.false)
    ]

pub returns : goal.returns
returns c =
    let l = c.loop-i in
    let v = l.invariant in
    let a = c.args in
    let f : length a.stay ≡ 48 = search rules in
    record {
      keys = sym (flags_end a.stay l.r.0 l.w l.i a.self.len (omega arith) (omega (arith, a.self.room))) ∙ v.kept_keys;
      slots = sym (flags_end a.stay l.r.1.0 l.w l.i a.self.len (omega arith) (omega (arith, a.self.room))) ∙ v.kept_slots;
    }

pub invariant_of-r : goal.invariant_of-r
invariant_of-r c =
    let v = c.loop-i.invariant in
    record {
      room = omega (arith, v.low, v.high, c.args.self.room);
      lengths = (v.key_length, v.slot_length);
      within = v.within;
      distinct = v.distinct;
    }
