-- What a configuration says, as contracts see it.
use Rattle.std.specs.Prelude.{ℕ, Bool, false, List, [], Option, None, codes}
use Rattle.acng_conf.specs.declared.fault.Warning.{Warning}

-- ---- limits

-- the most bytes of a text, and of a line that says something
abbrev pub most_text : ℕ
most_text = 4194304

abbrev pub most_line : ℕ
most_line = 8192

-- the most groups, the most entries that merge into them, and the most targets of a group
abbrev pub most_groups : ℕ
most_groups = 256

abbrev pub most_entries : ℕ
most_entries = 20000

abbrev pub most_targets : ℕ
most_targets = 64

-- ---- settings

-- a group of mirrors: its name, the places that merge into it, the URLs that are asked for it, and the last line that names it
pub record Mirrors : Type 0 where
  pub name : List ℕ
  pub merging : List (List ℕ)
  pub targets : List (List ℕ)
  pub last : ℕ

pub record Settings : Type 0 where
  pub port : ℕ
  pub bind : List ℕ
  pub threshold_days : ℕ
  pub abort_limit : ℕ
  pub offline : Bool
  pub report_page : List ℕ
  pub fresh_age : ℕ
  pub redir_max : ℕ
  pub maint_over_http : Bool
  pub pfile_pattern : Option (List ℕ)
  pub vfile_pattern : Option (List ℕ)
  pub groups : List Mirrors
  -- how many entries merge into a group
  pub entries : ℕ
  pub warnings : List Warning

-- what holds where no line says otherwise
abbrev pub defaults : Settings
defaults = record {
  port = 3142;
  bind = codes "0.0.0.0";
  threshold_days = 4;
  abort_limit = 1;
  offline = false;
  report_page = codes "acng-report.html";
  fresh_age = 27;
  redir_max = 5;
  maint_over_http = false;
  pfile_pattern = None;
  vfile_pattern = None;
  groups = [];
  entries = 0;
  warnings = [];
}

-- what the serving of files follows of a configuration
pub record Rules : Type 0 where
  pub threshold_days : ℕ
  pub abort_limit : ℕ
  pub offline : Bool
  pub fresh_age : ℕ
  pub redir_max : ℕ
  pub pfile_pattern : Option (List ℕ)
  pub vfile_pattern : Option (List ℕ)

abbrev pub rules_of : Settings → Rules
rules_of s = record {
  threshold_days = s.threshold_days;
  abort_limit = s.abort_limit;
  offline = s.offline;
  fresh_age = s.fresh_age;
  redir_max = s.redir_max;
  pfile_pattern = s.pfile_pattern;
  vfile_pattern = s.vfile_pattern;
}
