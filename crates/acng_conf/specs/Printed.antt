-- The text of `check-conf`.
use Rattle.std.specs.Prelude.{ℕ, List, [], ◌∷◌, ◌++◌, codes, decimal, length}
use Rattle.acng_base.specs.Cuts.{line_feed}
use Rattle.acng_conf.specs.Settings.{Settings}
use Rattle.acng_conf.specs.declared.fault.ConfCause.{ConfCause}
use Rattle.acng_conf.specs.declared.fault.ConfCause.TheVariants as refused
use Rattle.acng_conf.specs.declared.fault.ConfFault.{ConfFault}
use Rattle.acng_conf.specs.declared.fault.WarnCause.{WarnCause}
use Rattle.acng_conf.specs.declared.fault.WarnCause.TheVariants as warned
use Rattle.acng_conf.specs.declared.fault.Warning.{Warning}

abbrev pub warn_word : WarnCause → List ℕ
warn_word warned.Unused = codes "Unused"
warn_word warned.GzList = codes "GzList"
warn_word warned.NoList = codes "NoList"
warn_word warned.BadListLine = codes "BadListLine"
warn_word warned.NoTarget = codes "NoTarget"
warn_word warned.ExtraTarget = codes "ExtraTarget"
warn_word warned.Flags = codes "Flags"
warn_word warned.ExtraBind = codes "ExtraBind"

abbrev pub cause_word : ConfCause → List ℕ
cause_word refused.NoMemory = codes "NoMemory"
cause_word refused.NotALine = codes "NotALine"
cause_word refused.BadNumber = codes "BadNumber"
cause_word refused.BadUrl = codes "BadUrl"
cause_word refused.BadPattern = codes "BadPattern"
cause_word refused.NoMerge = codes "NoMerge"
cause_word refused.TwiceMerged = codes "TwiceMerged"
cause_word refused.TooLong = codes "TooLong"
cause_word refused.TooMany = codes "TooMany"

-- `warning line L: CAUSE`
abbrev pub warning_line : Warning → List ℕ
warning_line w = codes "warning line " ++ decimal w.line ++ codes ": " ++ warn_word w.cause ++ line_feed ∷ []

abbrev pub warning_lines : List Warning → List ℕ
warning_lines [] = []
warning_lines (w ∷ ws) = warning_line w ++ warning_lines ws

-- `ok groups G warnings W`, and a line for each warning
abbrev pub printed : Settings → List ℕ
printed s =
    codes "ok groups " ++ decimal (length s.groups) ++ codes " warnings " ++ decimal (length s.warnings) ++ line_feed ∷ []
    ++ warning_lines s.warnings

-- `line L: CAUSE`
abbrev pub fault_line : ConfFault → List ℕ
fault_line fault = codes "line " ++ decimal fault.line ++ codes ": " ++ cause_word fault.cause ++ line_feed ∷ []
