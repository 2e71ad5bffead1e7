-- Joining two designs: the answer, and the output afterwards.
use Rattle.std.specs.Prelude.{ℕ, List, length}
use Rattle.records.specs.Design.{Design}
use Rattle.records.specs.Encode.{encode}
use Rattle.records.specs.Writing.{Produced, writing_answer, writing_after}
use Rattle.joiner.specs.Joining.{joined_design, designs_reason}

abbrev pub designs_joining : Design → Design → ℕ → Produced
designs_joining d e room = writing_answer (designs_reason d e room) (encode (joined_design d e))

abbrev pub designs_joined_after : Design → Design → List ℕ → List ℕ
designs_joined_after d e out = writing_after (designs_reason d e (length out)) (encode (joined_design d e)) out
