use Rattle.std.proofs.Common.{◌≡◌, ◌∙◌, ap, codes, true}
use Rattle.clap.specs.Words.{App, app_of, new_app}
use Rattle.clap.specs.Simple.{app_of_fields}
use Rattle.rtxtool.proofs.options.bare.Goals as goal

with_version : App → App
with_version a = record a { top = record a.top { has_version = true } }

with_required : App → App
with_required a = record a { top = record a.top { subcommand_required = true } }

pub returns : goal.returns
unfolding with_version with_required
returns c =
    let plain : app_of c.after_help.result ≡ new_app (codes "rtxtool") =
    ap app_of_fields c.after_help.ensures ∙ (ap app_of_fields c.about.ensures ∙ c.new.ensures.app) in
    let versioned : app_of c.version.result ≡ with_version (new_app (codes "rtxtool")) = ap app_of_fields c.version.ensures ∙ ap with_version plain in
    ap app_of_fields c.subcommand_required.ensures ∙ ap with_required versioned
