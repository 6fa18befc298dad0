-- The options of the command line and what they set (this project's own rule). An option is given at most once.
use Rattle.std.specs.Prelude.{ℕ, ◌&&◌, ◌||◌, Bool, true, false, List, [], ◌∷◌}
use Rattle.std.specs.Prelude.{Option, Some, None, codes, option_map, option_and_then}
use Rattle.std.specs.List.{list_any}
use Rattle.std.specs.Str.{bytes_eq}
use Rattle.ed_words.specs.Decimals.{number_within}
use Rattle.ed_words.specs.declared.size.Size.{Size}
use Rattle.ed_words.specs.declared.size.Size.TheVariants.{Full}
use Rattle.ed_words.specs.Texts.{Text}
use Rattle.ed_run.specs.declared.settings.Settings.{Settings}
use Rattle.ed_run.specs.declared.settings.Window.{Window}
use Rattle.ed_command.specs.Windows.{size_named, window_named}

-- the values given for each of the four options
pub record Options : Type 0 where
  pub limits : List Text
  pub resumes : List Text
  pub post_mortems : List Text
  pub stores : List Text

-- the options by the values of each name
abbrev pub options_by : (Text → List Text) → Options
options_by values = record {
  limits = values (codes "limit");
  resumes = values (codes "resume");
  post_mortems = values (codes "post-mortem");
  stores = values (codes "store");
}

-- the value of an option that may be given once, or its default if omitted
abbrev pub option_value : {A : Type 0} → A → (Text → Option A) → List Text → Option A
option_value default read [] = Some default
option_value default read (value ∷ []) = read value
option_value default read _ = None

-- `--limit`: how many orders may be obeyed, 1 to 100,000,000
abbrev pub limit_of : Options → Option ℕ
limit_of o = option_value 10000000 (number_within 1 100000000) o.limits

-- `--resume`: how often the machine is restarted after a stop, 0 to 1000
abbrev pub resumes_of : Options → Option ℕ
resumes_of o = option_value 0 (number_within 0 1000) o.resumes

-- `--store`: the size of the store
abbrev pub size_of : Options → Option Size
size_of o = option_value Full size_named o.stores

-- `--post-mortem`: which locations are printed after the run, if any; they are within the store
abbrev pub post_mortem_of : Size → Options → Option (Option Window)
post_mortem_of z o = option_value None (λ text. option_map Some (window_named z text)) o.post_mortems

-- the settings, if each of them is valid
abbrev pub all_settings : Size → Option ℕ → Option ℕ → Option (Option Window) → Option Settings
all_settings z (Some limit) (Some resumes) (Some post_mortem) =
    Some (record { limit = limit; resumes = resumes; size = z; post_mortem = post_mortem })
all_settings z _ _ _ = None

-- what the options set
abbrev pub settings_of : Options → Option Settings
settings_of o = option_and_then (λ z. all_settings z (limit_of o) (resumes_of o) (post_mortem_of z o)) (size_of o)

-- no value is given
abbrev pub is_none_given : List Text → Bool
is_none_given [] = true
is_none_given (value ∷ values) = false

-- an option is omitted, or its name is one of these
abbrev pub may_be_given : List Text → Text → List Text → Bool
may_be_given names name values = is_none_given values || list_any (λ n. bytes_eq n name) names

-- the options that are given are among these names
abbrev pub has_only : List Text → Options → Bool
has_only names o =
    may_be_given names (codes "limit") o.limits && may_be_given names (codes "resume") o.resumes
    && may_be_given names (codes "post-mortem") o.post_mortems && may_be_given names (codes "store") o.stores
