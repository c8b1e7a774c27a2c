-- Settled instances of an opening and a release, and an instance of each law's hypothesis. Every answer is 0.
use Rattle.std.specs.Prelude.{◌≡◌, true, false, List, [], ◌∷◌, ℕ, ◌*◌, replicate, None}
use Rattle.model.specs.Ends.{Met}
use Rattle.model.specs.Limit.{Ended}
use Rattle.registers.specs.declared.setting.CtrlMode.TheVariants.{Slave}
use Rattle.registers.specs.declared.setting.Phase.TheVariants.{CaptureOnFirstTransition, CaptureOnSecondTransition}
use Rattle.registers.specs.declared.setting.Polarity.TheVariants.{IdleLow, IdleHigh}
use Rattle.config.specs.declared.spi.Mode.{Mode}
use Rattle.config.specs.declared.config.WorkMode.{WorkMode}
use Rattle.config.specs.declared.config.WorkMode.TheVariants.{ThreeWire, Qpi}
use Rattle.config.specs.declared.config.QspiConfig.{QspiConfig}
use Rattle.config.specs.Config.{default_config, nor_flash}
use Rattle.opening.specs.declared.Opening.{Opening}
use Rattle.opening.specs.Call.{opening_refusal, opens, releases}

-- a configuration on an instance, at a core rate and a PLL rate, with an oscillator of 24,000,000 Hz
abbrev pub asked_at : ℕ → ℕ → ℕ → QspiConfig → Opening
asked_at core_hz pll instance config =
    record {
      instance = instance;
      qpi = false;
      core_hz = core_hz;
      config = config;
      clock_tree = record { pll_fra0 = pll; osc_24m = 24_000_000 };
    }

-- with a PLL of 1,200,000,000 Hz (P1)
abbrev pub asked : ℕ → QspiConfig → Opening
asked = asked_at 1_000_000_000 1_200_000_000

-- the default configuration in another SPI mode and work mode
abbrev pub in_mode : Mode → WorkMode → QspiConfig
in_mode mode work =
    record {
      freq = default_config.freq;
      mode = mode;
      ctrl_mode = default_config.ctrl_mode;
      work_mode = work;
      bit_mode_en = default_config.bit_mode_en;
      lsb_first = default_config.lsb_first;
      cs_config = default_config.cs_config;
    }

abbrev pub mode1 : Mode
mode1 = record { polarity = IdleLow; phase = CaptureOnSecondTransition }

-- QPI on a chip that has it, slave, mode 2, low bit first, no chip-select record, and an oscillator just below the rate
abbrev pub odd : Opening
odd =
    record {
      instance = 3;
      qpi = true;
      core_hz = 1;
      config = record {
        freq = 10_000_000;
        mode = record { polarity = IdleHigh; phase = CaptureOnFirstTransition };
        ctrl_mode = Slave;
        work_mode = Qpi;
        bit_mode_en = false;
        lsb_first = true;
        cs_config = None;
      };
      clock_tree = record { pll_fra0 = 1_200_000_000; osc_24m = 9_999_999 };
    }

-- number, entries, answers, polls, longest and rate of an opening with room for so many entries, and so many answers
unfoldable pub end_of : Opening → ℕ → ℕ → ℕ → List ℕ
end_of o limit room count =
    let r = opens o limit (replicate count 0) (replicate (2 * room) 7) [] in
    let st = r.state in
    st.number ∷ st.entries ∷ st.taken ∷ st.tally.polls ∷ st.tally.longest ∷ r.rate ∷ []

-- the log that is left
unfoldable pub log_of : Opening → ℕ → List ℕ
log_of o words = (opens o 1 (replicate 16 0) (replicate words 7) []).state.log

-- the same of a release
unfoldable pub released_log : ℕ → ℕ → List ℕ
released_log instance limit = (releases instance limit (0xffffffff ∷ []) (replicate 5 7) []).log

pub record Settled : Type 0 where
  -- the log words of the Rust under the recorder; an odd last word keeps its value
  pub default_log : log_of (asked 0 default_config) 61
      ≡ 0x11000 ∷ 0 ∷ 0x21000 ∷ 0x110b ∷ 0x11000 ∷ 0 ∷ 0x21000 ∷ 0 ∷ 0x50000 ∷ 0x1f4 ∷ 0x11000 ∷ 0 ∷ 0x21000 ∷ 0x2000
      ∷ 0x10004 ∷ 0 ∷ 0x20004 ∷ 0x80000000 ∷ 0x50000 ∷ 0x1f4 ∷ 0x10024 ∷ 0 ∷ 0x20024 ∷ 0x1004 ∷ 0x50000 ∷ 0x64
      ∷ 0x10004 ∷ 0 ∷ 0x20004 ∷ 0x83 ∷ 0x10010 ∷ 0 ∷ 0x20010 ∷ 0 ∷ 0x10008 ∷ 0 ∷ 0x20008 ∷ 0x4100 ∷ 0x10008 ∷ 0
      ∷ 0x20008 ∷ 4 ∷ 0x10008 ∷ 0 ∷ 0x20008 ∷ 0x2000 ∷ 0x10040 ∷ 0 ∷ 0x20040 ∷ 0 ∷ 0x10018 ∷ 0 ∷ 0x20018 ∷ 0x80208020
      ∷ 0x50000 ∷ 0x64 ∷ 0x10014 ∷ 0 ∷ 0x20014 ∷ 0xffffffff ∷ 7 ∷ []
  pub odd_log : log_of odd 56
      ≡ 0x11003 ∷ 0 ∷ 0x21003 ∷ 0x110b ∷ 0x11003 ∷ 0 ∷ 0x21003 ∷ 0 ∷ 0x50000 ∷ 0x1f4 ∷ 0x11003 ∷ 0 ∷ 0x21003 ∷ 0x2000
      ∷ 0x10004 ∷ 0 ∷ 0x20004 ∷ 0x80000000 ∷ 0x50000 ∷ 0x1f4 ∷ 0x10024 ∷ 0 ∷ 0x20024 ∷ 0x1004 ∷ 0x50000 ∷ 0x64
      ∷ 0x10004 ∷ 0 ∷ 0x20004 ∷ 0x81 ∷ 0x10010 ∷ 0 ∷ 0x20010 ∷ 0 ∷ 0x10008 ∷ 0 ∷ 0x20008 ∷ 0x5142 ∷ 0x10008 ∷ 0
      ∷ 0x20008 ∷ 0 ∷ 0x10038 ∷ 0 ∷ 0x20038 ∷ 0x80000000 ∷ 0x10018 ∷ 0 ∷ 0x20018 ∷ 0x80208020 ∷ 0x50000 ∷ 0x64
      ∷ 0x10014 ∷ 0 ∷ 0x20014 ∷ 0xffffffff ∷ []
  -- the least limit, room and answers for each
  pub default : end_of (asked 0 default_config) 1 30 13 ≡ 0 ∷ 30 ∷ 13 ∷ 0 ∷ 0 ∷ 10_000_000 ∷ []
  pub no_chip_select : end_of (asked 1 nor_flash) 1 28 12 ≡ 0 ∷ 28 ∷ 12 ∷ 0 ∷ 0 ∷ 100_000_000 ∷ []
  pub three_wire_lem : end_of (asked 2 (in_mode default_config.mode ThreeWire)) 1 32 14
      ≡ 0 ∷ 32 ∷ 14 ∷ 0 ∷ 0 ∷ 10_000_000 ∷ []
  -- a PLL of 1 Hz gives a rate of 1 Hz, and the last one with a clock a rate too
  pub slowest : end_of (asked_at 1 1 0 default_config) 1 30 13 ≡ 0 ∷ 30 ∷ 13 ∷ 0 ∷ 0 ∷ 1 ∷ []
  pub last_clock : end_of (asked_at 1 3_200_000_031 0 default_config) 1 30 13
      ≡ 0 ∷ 30 ∷ 13 ∷ 0 ∷ 0 ∷ 10_000_000 ∷ []
  -- 10 and 11 at an access, with rate 0: at the first one, in the last change, and 10 before 11
  pub full : end_of (asked 0 default_config) 1 29 13 ≡ 10 ∷ 29 ∷ 13 ∷ 0 ∷ 0 ∷ 0 ∷ []
  pub dry : end_of (asked 0 default_config) 1 30 12 ≡ 11 ∷ 28 ∷ 12 ∷ 0 ∷ 0 ∷ 0 ∷ []
  pub no_room : end_of (asked 0 default_config) 1 0 0 ≡ 10 ∷ 0 ∷ 0 ∷ 0 ∷ 0 ∷ 0 ∷ []
  pub no_answers : end_of (asked 0 default_config) 1 30 0 ≡ 11 ∷ 0 ∷ 0 ∷ 0 ∷ 0 ∷ 0 ∷ []
  -- everything wrong at once gives 3; then 4, 5, 14, 23 and 7, each without the ones before
  pub all_wrong : end_of (asked_at 0 0 9 (in_mode mode1 Qpi)) 0 30 13 ≡ 3 ∷ 0 ∷ 0 ∷ 0 ∷ 0 ∷ 0 ∷ []
  pub instance_wrong : end_of (asked_at 0 0 4 (in_mode default_config.mode Qpi)) 0 30 13 ≡ 4 ∷ 0 ∷ 0 ∷ 0 ∷ 0 ∷ 0 ∷ []
  pub qpi_wrong : end_of (asked_at 0 0 3 (in_mode default_config.mode Qpi)) 0 30 13 ≡ 5 ∷ 0 ∷ 0 ∷ 0 ∷ 0 ∷ 0 ∷ []
  pub core_wrong : end_of (asked_at 0 0 3 default_config) 0 30 13 ≡ 14 ∷ 0 ∷ 0 ∷ 0 ∷ 0 ∷ 0 ∷ []
  pub clock_wrong : end_of (asked_at 1 3_200_000_032 3 default_config) 0 30 13 ≡ 23 ∷ 0 ∷ 0 ∷ 0 ∷ 0 ∷ 0 ∷ []
  pub limit_wrong : end_of (asked 3 default_config) 0 30 13 ≡ 7 ∷ 0 ∷ 0 ∷ 0 ∷ 0 ∷ 0 ∷ []
  -- a release at limit 0, and of an instance above 3
  pub release : released_log 2 0 ≡ 0x11002 ∷ 0xffffffff ∷ 0x21002 ∷ 0xffffceff ∷ 7 ∷ []
  pub release_above : released_log 255 1 ≡ 0x11003 ∷ 0xffffffff ∷ 0x21003 ∷ 0xffffceff ∷ 7 ∷ []

-- What the laws ask for can be had.
pub record HypothesesMet : Type 0 where
  pub opened : Ended (opens (asked 0 default_config) 1 (replicate 13 0) (replicate 60 7) []).state.number
  pub released : Ended (releases 0 0 (0 ∷ []) (replicate 4 7) []).number
  pub refused : opening_refusal (asked 4 default_config) 1 ≡ 0 → ⊥
  pub refused_by : (opens (asked 4 default_config) 1 [] [] []).state.number ≡ 4
  pub not_met : Met (opens (asked 4 default_config) 1 [] [] []).state.number → ⊥
