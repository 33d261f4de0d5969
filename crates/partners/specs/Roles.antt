-- The sorts and roles that the code names.
use Rattle.rules.specs.Instruction as instruction
use Rattle.rules.specs.Partners as partners
use Rattle.rules.specs.Partners.{opens, parts, ends, other}
use Rattle.partners.specs.declared.Sort.{Sort}
use Rattle.partners.specs.declared.Sort.TheVariants.{Conditional, Loop}
use Rattle.partners.specs.declared.Role.{Role}
use Rattle.partners.specs.declared.Role.TheVariants.{Opens, Parts, Ends, Other}

abbrev pub sort_of : Sort → instruction.Sort
sort_of Conditional = instruction.conditional
sort_of Loop = instruction.loop

unfoldable pub role_said : partners.Role → Role
role_said opens = Opens
role_said parts = Parts
role_said ends = Ends
role_said other = Other
