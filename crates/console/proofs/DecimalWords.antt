-- Words of decimal digits: the numbers that they write, and that they are text.
use Rattle.std.proofs.Common.{◌≡◌, ℕ, ◌<◌, ◌^◌, List, get_or, length, Result, true, arith, rules}
use Rattle.std.proofs.lemmas.Bool.Decides.{nat_tests}
use Rattle.std.proofs.lemmas.List.Sums.{AllPass-from_list_all}
use Rattle.std.proofs.lemmas.Str.{IsUtf8-from_ascii}
use Rattle.std.proofs.lemmas.Str.Ascii.{IsAscii-from_all}
use Rattle.std.proofs.lemmas.Str.Parse.{IsNumeralModel, numerals_by_value, parse_digits}
use Rattle.std.specs.Char.{is_ascii_digit}
use Rattle.std.specs.List.{list_all}
use Rattle.std.specs.Result.{OkIff}
use Rattle.std.specs.Str.{IsUtf8}
use Rattle.std.specs.Str.Parse.{digits_value, ParsesUnsigned}

below : (c : ℕ) → is_ascii_digit c ≡ true → c < 128
below c h = grind (arith, nat_tests)

pub text : (w : List ℕ) → list_all is_ascii_digit w ≡ true → IsUtf8 w
text w h = IsUtf8-from_ascii w (IsAscii-from_all w (λ k d lt. below (get_or w k d) (AllPass-from_list_all is_ascii_digit w h k d lt)))

numerals : IsNumeralModel (λ ds. list_all is_ascii_digit ds ≡ true) (digits_value 10)
numerals = numerals_by_value _ (search rules)

-- of sixteen bits
pub decimal : {E : Type 0} (w : List ℕ) (r : Result ℕ E) → ParsesUnsigned 16 10 w r → list_all is_ascii_digit w ≡ true → OkIff r ((0 < length w) × (digits_value 10 w < 2 ^ 16)) (digits_value 10 w)
decimal w r h d = parse_digits numerals 16 w r h d
