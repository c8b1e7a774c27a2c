-- What is refused touches nothing.
use Rattle.model.proofs.Called.{others_touch_nothing}
use Rattle.bus.specs.Calls.{lengths_of, steps_of, refusal, outcome}
use Rattle.bus.specs.Refused.{CallRefused}

pub call_refused : CallRefused
unfolding outcome
call_refused call limit = others_touch_nothing (refusal limit (lengths_of call)) (steps_of call) limit
