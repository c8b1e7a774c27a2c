-- Accesses, log entries and traces (document 01, "How a call ends").
use Rattle.std.specs.Prelude.{List, [], ◌∷◌, ◌++◌, ℕ, ◌+◌, ◌*◌, ◌%◌, set}
use Rattle.std.proofs.lemmas.List.Edits.{sets}
use Rattle.model.specs.Wait.{Cause, place_of}

-- an access that takes no answer
pub data Act : Type 0 where
  write : ℕ → ℕ → Act  -- a register: place, value
  send : ℕ → Act  -- a byte to the transmit FIFO
  delay : ℕ → Act  -- cycles

-- an access that takes the next answer (document 01: answer)
pub data Ask : Type 0 where
  register : ℕ → Ask  -- the word at a place
  byte : Ask  -- a byte from the receive FIFO

-- what an answer says: of a byte its low eight bits
abbrev pub said : Ask → ℕ → ℕ
said (register place) answer = answer
said byte answer = answer % 256

-- One log entry (document 01: entry), with what its two words do not say:
-- the whole answer, where a byte got is stored, and of a poll its wait's cause and the unready polls of that wait before it.
pub data Event : Type 0 where
  did : Act → Event
  heard : Ask → ℕ → Event  -- the answer
  got : ℕ → ℕ → Event  -- a byte got and stored: index in the memory, answer
  polled : Cause → ℕ → ℕ → Event  -- cause, unready polls before it, answer

-- the first word of an entry: op × 65,536 + place
abbrev pub act_head : Act → ℕ
act_head (write place value) = 2 * 65536 + place
act_head (send b) = 3 * 65536 + 0x200
act_head (delay cycles) = 5 * 65536

abbrev pub ask_head : Ask → ℕ
ask_head (register place) = 1 * 65536 + place
ask_head byte = 4 * 65536 + 0x300

unfoldable pub head_of : Event → ℕ
head_of (did a) = act_head a
head_of (heard q answer) = ask_head q
head_of (got i answer) = ask_head byte
head_of (polled c n answer) = ask_head (register (place_of c))

-- the second word of an entry: its value
abbrev pub act_value : Act → ℕ
act_value (write place value) = value
act_value (send b) = b
act_value (delay cycles) = cycles

unfoldable pub value_of : Event → ℕ
value_of (did a) = act_value a
value_of (heard q answer) = said q answer
value_of (got i answer) = said byte answer
value_of (polled c n answer) = answer

-- the answers that an event takes, and those of a trace, in order
unfoldable pub answer_of : Event → List ℕ
answer_of (did a) = []
answer_of (heard q answer) = answer ∷ []
answer_of (got i answer) = answer ∷ []
answer_of (polled c n answer) = answer ∷ []

unfoldable pub answers_of : List Event → List ℕ
answers_of [] = []
answers_of (e ∷ t) = answer_of e ++ answers_of t

-- the memory after an event, and after a trace: only a byte got and stored changes it
unfoldable pub receive : List ℕ → Event → List ℕ
receive m (did a) = m
receive m (heard q answer) = m
receive m (got i answer) = set m i (said byte answer)
receive m (polled c n answer) = m

unfoldable pub received : List ℕ → List Event → List ℕ
received m [] = m
received m (e ∷ t) = received (receive m e) t

-- the log words of a trace, two an entry
unfoldable pub words : List Event → List ℕ
words [] = []
words (e ∷ t) = head_of e ∷ value_of e ∷ words t

-- the lent log (document 01: log), with a trace's words stored from entry n on
unfoldable pub stored : List ℕ → ℕ → List Event → List ℕ
stored log n t = sets log (n * 2) (words t)
