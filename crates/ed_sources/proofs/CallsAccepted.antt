-- The sources of calls are accepted.
use Rattle.ed_sources.proofs.Kit.{decimal, Ok, list_all, Text, is_line_byte, IsDivisible, Check, Divide, NewLine, Print}
use Rattle.ed_sources.proofs.Kit.{Read, Root, append-nil, arith, lit≤, refl, subst, true, ℕ, ◌%◌, ◌/◌, ◌<◌, ◌≡◌}
use Rattle.ed_sources.proofs.Kit.{digits, program_of, call_text, Size, Line, None, fault, List}
use Rattle.ed_sources.proofs.CallTexts.{call_is}
use Rattle.ed_sources.proofs.Decimals.{are_digits-digits, decimal_is, line_bytes}
use Rattle.ed_sources.proofs.Said.{newline_lines, newline_says, print_lines, print_says, read_lines, read_says}
use Rattle.ed_sources.proofs.Said.{with_end, check_lines, check_says}
use Rattle.ed_sources.proofs.SaidMaths.{divide_lines, divide_says, root_lines, root_says}
use Rattle.ed_sources.proofs.TextLines.{said_lines}
use Rattle.ed_words.specs.declared.size.Size.TheVariants as size

-- ---- bytes of lines

pub decimal_plain : (n : ℕ) → n < 65536 → list_all is_line_byte (decimal n) ≡ true
decimal_plain n small =
    subst (λ (bytes : Text). list_all is_line_byte bytes ≡ true) (decimal_is n small)
    (line_bytes (digits n) (are_digits-digits n small))

-- ---- what the sources are read as

pub print_read : (n : ℕ) → n < 65536 → program_of (call_text (Print n)) ≡ Ok (print_lines n)
print_read n small =
    call_is (Print n) (print_lines n) refl (rw (append-nil (decimal n), decimal_plain n small) refl) refl
    (said_lines (print_says n small) (lit≤ tt))

pub read_read : (n : ℕ) → n < 65536 → program_of (call_text (Read n)) ≡ Ok (read_lines n)
read_read n small =
    call_is (Read n) (read_lines n) refl (rw (with_end (decimal n) (decimal_plain n small)) refl) refl
    (said_lines (read_says n small) (lit≤ tt))

pub newline_read : program_of (call_text NewLine) ≡ Ok newline_lines
newline_read = call_is NewLine newline_lines refl refl refl (said_lines newline_says (lit≤ tt))

pub divide_read : (n by : ℕ) → IsDivisible n by
    → program_of (call_text (Divide n by)) ≡ Ok (divide_lines (n / 65536) (n % 65536) by)
divide_read n by made =
    let less = made.less in
    let few = made.divisor in
    let high : n / 65536 < 65536 = omega arith in
    let low : n % 65536 < 65536 = omega arith in
    let small : by < 65536 = omega arith in
    call_is (Divide n by) (divide_lines (n / 65536) (n % 65536) by) refl
    (rw (append-nil (decimal (n / 65536)), append-nil (decimal (n % 65536)), append-nil (decimal by))
    (rw (decimal_plain (n / 65536) high, decimal_plain (n % 65536) low, decimal_plain by small) refl))
    refl (said_lines (divide_says n by high low small) (lit≤ tt))

pub root_read : (n : ℕ) → n < 65536 → program_of (call_text (Root n)) ≡ Ok (root_lines n)
root_read n small =
    call_is (Root n) (root_lines n) refl (rw (append-nil (decimal n), decimal_plain n small) refl) refl
    (said_lines (root_says n small) (lit≤ tt))

pub check_read : (n : ℕ) → n < 65536 → program_of (call_text (Check n)) ≡ Ok (check_lines n)
check_read n small =
    call_is (Check n) (check_lines n) refl (rw (append-nil (decimal n), decimal_plain n small) refl) refl
    (said_lines (check_says n small) (lit≤ tt))

-- without a fault on stores of both sizes
pub fault-none : (z : Size) (lines : List Line) → fault size.Small lines ≡ None → fault size.Full lines ≡ None
    → fault z lines ≡ None
fault-none size.Small lines small full = small
fault-none size.Full lines small full = full
