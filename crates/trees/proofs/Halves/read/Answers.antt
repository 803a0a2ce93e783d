-- What the walk of the marks comes to is what the table says of them.
use Rattle.std.proofs.Common.{◌∙◌, sym}
use Rattle.trees.proofs.Read.{too_many, walked, goes_on, ends, read_noted}
use Rattle.trees.proofs.Halves.read.Goals as goal

pub returns-then-marks-gt63-clause-refused : goal.returns-then-marks-gt63-clause-refused
returns-then-marks-gt63-clause-refused c = too_many _ c.if-marks-gt63.true

pub returns-then-not-walk-clause-refused : goal.returns-then-not-walk-clause-refused
returns-then-not-walk-clause-refused c = c.breach.ensures ∙ sym (walked _ c.if-marks-gt63.false _ c.requires _ c.if-not-walk.ensures)

pub returns-then-self-marks-clause-refused : goal.returns-then-self-marks-clause-refused
returns-then-self-marks-clause-refused c = goes_on _ c.if-marks-gt63.false _ c.requires _ _ _ c.if-not-walk.ensures c.if-self-marks.true

pub returns-clause-refused : goal.returns-clause-refused
returns-clause-refused c = ends _ c.if-marks-gt63.false _ c.requires _ _ _ c.if-not-walk.ensures c.if-self-marks.false

pub returns-clause-read : goal.returns-clause-read
returns-clause-read c = read_noted _ c.if-marks-gt63.false _ c.requires _ _ _ c.if-not-walk.ensures
