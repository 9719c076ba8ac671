-- The greatest width of a field in each profile.
use Rattle.std.specs.Prelude.{ℕ}
use Rattle.paris_names.specs.declared.profiles.Profile.{Profile}
use Rattle.paris_names.specs.declared.profiles.Profile.TheVariants.{One, Two}
use Rattle.paris_names.specs.declared.limits.TheConstants.{MAX_WIDTH, MAX_WIDTH_OF_ONE}

abbrev pub max_width : Profile → ℕ
max_width One = MAX_WIDTH_OF_ONE
max_width Two = MAX_WIDTH
