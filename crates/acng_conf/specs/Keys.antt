-- Keys, and names of groups.
use Rattle.std.specs.Prelude.{ℕ, Bool, false, not, ◌&&◌, ◌||◌, ◌==◌, nat_le, List, [], ◌∷◌, length, take, drop, cond, codes, bytes_eq, Option, Some, None}
use Rattle.std.specs.List.{list_all}
use Rattle.std.specs.Char.{is_ascii_alphabetic, is_ascii_alphanumeric}
use Rattle.std.specs.Str.{str_to_ascii_lowercase}
use Rattle.acng_conf.specs.Lines.{first_is, full_stop}
use Rattle.acng_conf.specs.declared.key.Key.{Key}
use Rattle.acng_conf.specs.declared.key.Key.TheVariants.{Setting, Group, Unused}
use Rattle.acng_conf.specs.declared.key.Setting.{Setting as OneSetting}
use Rattle.acng_conf.specs.declared.key.Setting.TheVariants.{Port, BindAddress, ReportPage, ExThreshold, ExAbortOnProblems, Offlinemode, FreshIndexMaxAge, RedirMax, MaintOverHttp, PfilePatternEx, VfilePatternEx}

-- a letter, a digit, `-`, `_` or `.`
abbrev pub is_word_byte : ℕ → Bool
is_word_byte b = is_ascii_alphanumeric b || b == 45 || b == 95 || b == 46

abbrev begins_with_letter : List ℕ → Bool
begins_with_letter [] = false
begins_with_letter (b ∷ bs) = is_ascii_alphabetic b

abbrev pub is_key : List ℕ → Bool
is_key text = begins_with_letter text && list_all is_word_byte text

-- 1 to 64 such bytes
abbrev pub is_page : List ℕ → Bool
is_page text = nat_le 1 (length text) && nat_le (length text) 64 && list_all is_word_byte text

-- the same, and no dot first
abbrev pub is_group_name : List ℕ → Bool
is_group_name text = is_page text && not (first_is full_stop text)

-- the text is this word in small letters
abbrev pub is_named : List ℕ → List ℕ → Bool
is_named word text = bytes_eq (str_to_ascii_lowercase text) word

-- what a key with one value sets, letters' case aside
abbrev pub setting_of : List ℕ → Option OneSetting
setting_of key =
    cond (is_named (codes "port") key) (Some Port)
    (cond (is_named (codes "bindaddress") key) (Some BindAddress)
    (cond (is_named (codes "reportpage") key) (Some ReportPage)
    (cond (is_named (codes "exthreshold") key) (Some ExThreshold)
    (cond (is_named (codes "exabortonproblems") key) (Some ExAbortOnProblems)
    (cond (is_named (codes "offlinemode") key) (Some Offlinemode)
    (cond (is_named (codes "freshindexmaxage") key) (Some FreshIndexMaxAge)
    (cond (is_named (codes "redirmax") key) (Some RedirMax)
    (cond (is_named (codes "maintoverhttp") key) (Some MaintOverHttp)
    (cond (is_named (codes "pfilepatternex") key) (Some PfilePatternEx)
    (cond (is_named (codes "vfilepatternex") key) (Some VfilePatternEx) None))))))))))

abbrev some_key : Option OneSetting → Key
some_key None = Unused
some_key (Some setting) = Setting setting

-- what a key is: a group's begins with `Remap-`
abbrev pub key_of : List ℕ → Key
key_of key = cond (is_named (codes "remap-") (take 6 key)) Group (some_key (setting_of key))

-- the name of a group in its key
abbrev pub group_name : List ℕ → List ℕ
group_name key = drop 6 key
