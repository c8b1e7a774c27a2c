-- The number and words of each error, from document 01 ("How a call ends") and from 14 on document 02, and the number
-- by which a call ends.
use Rattle.std.specs.Prelude.{ℕ, Bool, ◌&&◌, ◌||◌, nat_le, eqb, List, Result, Ok, Err, codes}
use Rattle.config.specs.declared.error.QspiError.{QspiError}
use Rattle.config.specs.declared.error.QspiError.TheVariants.{Timeout, Unsupported, SpiMode, Instance, Qpi, Length}
use Rattle.config.specs.declared.error.QspiError.TheVariants.{Limit, Chain, Window, Log, Answers, Divider, Sheet}
use Rattle.config.specs.declared.error.QspiError.TheVariants.{Cycles, NoClock}

-- 1 to 13, 14 of request 2 and 23 of request 13
abbrev pub error_number : QspiError → ℕ
error_number Timeout = 1
error_number Unsupported = 2
error_number SpiMode = 3
error_number Instance = 4
error_number Qpi = 5
error_number Length = 6
error_number Limit = 7
error_number Chain = 8
error_number Window = 9
error_number Log = 10
error_number Answers = 11
error_number Divider = 12
error_number Sheet = 13
error_number Cycles = 14
error_number NoClock = 23

abbrev pub error_text : QspiError → List ℕ
error_text Timeout = codes "timeout"
error_text Unsupported = codes "unsupported"
error_text SpiMode = codes "SPI mode 1 or 3"
error_text Instance = codes "instance above 3"
error_text Qpi = codes "QPI at opening on a chip without it"
error_text Length = codes "length above FFFFFF hex in one phase"
error_text Limit = codes "limit 0"
error_text Chain = codes "chain"
error_text Window = codes "window outside memory"
error_text Log = codes "log used up"
error_text Answers = codes "answers used up"
error_text Divider = codes "divider"
error_text Sheet = codes "sheet"
error_text Cycles = codes "core rate 0 at opening, or a delay above FFFFFFFF hex cycles"
error_text NoClock = codes "no eligible module clock at opening"

-- 0 done, else the error's number
abbrev pub ended_number : {T : Type 0} → Result T QspiError → ℕ
ended_number (Ok x) = 0
ended_number (Err error) = error_number error

-- the numbers of what touches no register and no lent byte: 3 to 9, 12 and 13 (demand 1), 14 of request 2 and
-- 23 of request 13
abbrev pub touches_nothing : ℕ → Bool
touches_nothing n = (nat_le 3 n && nat_le n 9) || (nat_le 12 n && nat_le n 14) || eqb n 23
