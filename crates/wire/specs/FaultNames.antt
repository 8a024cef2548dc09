-- How faults print.
use Rattle.std.specs.Prelude.{ℕ, List, codes}
use Rattle.wire.specs.declared.fault.Fault.{Fault}
use Rattle.wire.specs.declared.fault.Fault.TheVariants.{Tag, Length, Content}
use Rattle.wire.specs.declared.fault.LinkFault.{LinkFault}
use Rattle.wire.specs.declared.fault.LinkFault.TheVariants.{Short, Long, Connection, Mark}

-- what is wrong with a unit above the link
abbrev pub fault_name : Fault → List ℕ
fault_name Tag = codes "tag"
fault_name Length = codes "length"
fault_name Content = codes "content"

-- what is wrong with a link unit
abbrev pub link_fault_name : LinkFault → List ℕ
link_fault_name Short = codes "short"
link_fault_name Long = codes "long"
link_fault_name Connection = codes "connection"
link_fault_name Mark = codes "mark"
