-- Sizes and windows as words of the command line (this project's own rule).
use Rattle.std.specs.Prelude.{ℕ, ◌+◌, ◌==◌, ◌&&◌, Bool, Option, Some, None, codes, nat_le, if◌then◌else◌}
use Rattle.std.specs.List.{after_first, before_first, list_any}
use Rattle.std.specs.Str.{bytes_eq}
use Rattle.ed_words.specs.Decimals.{number}
use Rattle.ed_words.specs.Sizes.{locations}
use Rattle.ed_words.specs.Texts.{Text}
use Rattle.ed_words.specs.declared.size.Size.{Size}
use Rattle.ed_words.specs.declared.size.Size.TheVariants.{Small, Full}
use Rattle.ed_run.specs.declared.settings.Window.{Window}

-- the byte `,`
abbrev pub is_comma : ℕ → Bool
is_comma byte = byte == 44

-- the texts `512` and `1024` as sizes
abbrev pub size_named : Text → Option Size
size_named text =
    if bytes_eq text (codes "512") then Some Small else if bytes_eq text (codes "1024") then Some Full else None

-- the locations from `first` upwards, `count` of them, if they are at 144 or above and within a store
abbrev pub window : Size → Option ℕ → Option ℕ → Option Window
window z (Some first) (Some count) =
    if nat_le 144 first && nat_le (first + count) (locations z)
    then Some (record { first = first; count = count }) else None
window z _ _ = None

-- a text `FROM,COUNT` as such locations
abbrev pub window_named : Size → Text → Option Window
window_named z text =
    if list_any is_comma text then window z (number (before_first is_comma text)) (number (after_first is_comma text))
    else None
