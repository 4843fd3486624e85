-- The settings that a caller gives, as the limits of the definitions (document 02, request [6]).
-- Trusted. Assumes nothing.
--     limits_given    the limits
use Rattle.rules.specs.Context.{Limits, settings_of}
use Rattle.context.specs.declared.settings.Settings.{Settings}

abbrev pub limits_given : Settings → Limits
limits_given x = settings_of x.comparisons x.depth x.members
