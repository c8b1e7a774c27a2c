use Rattle.std.proofs.Common.{◌≤◌, vec_len}
use Rattle.replay.proofs.fields.parse.Given as goal

abbrev pub invariant-loop-word : goal.invariant-loop-word
invariant-loop-word l = vec_len l.numbers ≤ 2048
