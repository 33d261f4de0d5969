-- The last digit is printed behind the digits of the tenth. The measure is the number.
use Rattle.print.proofs.+put_number.Given as goal

abbrev pub decreases-put_number : goal.decreases-put_number
decreases-put_number l = l.n
