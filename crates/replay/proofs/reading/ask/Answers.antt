-- `replay::reading::ask`: Every turn asks the same.
use Rattle.replay.proofs.Replied.{asked}
use Rattle.replay.proofs.reading.ask.Goals as goal

pub loop-turn-preserved : goal.loop-turn-preserved
loop-turn-preserved c = λ h. asked _ _ _ _ _ _ _ _ _ c.saturating_sub-kind.ensures c.loop-turn.auto.list (c.fill.ensures.after (λ y e. e)) c.ask-answer.ensures
