-- The labels so far, as the code keeps them: the places where they first stood.
use Rattle.rules.specs.Words.{ℕ, List, map}
use Rattle.text.specs.Names.{name_at}

abbrev pub labels_of : List ℕ → List ℕ → List (List ℕ)
labels_of w f = map (name_at w) f
