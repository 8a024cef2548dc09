-- How the faults of lines print.
use Rattle.std.specs.Prelude.{ℕ, List, codes}
use Rattle.console.specs.declared.request.LineFault.{LineFault}
use Rattle.console.specs.declared.request.LineFault.TheVariants.{TooLong, NoSuchCall, MissingWord, NotDecimal, TooLarge, NotHex, ExtraWord}

-- why a line is no call
abbrev pub fault_text : LineFault → List ℕ
fault_text TooLong = codes "longer than 200000 bytes"
fault_text NoSuchCall = codes "no such call; --help lists them"
fault_text MissingWord = codes "a word is missing; --help shows the form"
fault_text NotDecimal = codes "a number is written in decimal digits"
fault_text TooLarge = codes "a number is too large: slots and connections end at 255, sizes and rooms at 65535"
fault_text NotHex = codes "a byte is written as two hexadecimal digits"
fault_text ExtraWord = codes "more words than the call takes; --help shows the form"
