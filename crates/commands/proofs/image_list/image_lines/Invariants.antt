use Rattle.std.proofs.Common.{◌≡◌, take}
use Rattle.commands.specs.ImageList.{images_text}
use Rattle.commands.proofs.image_list.image_lines.Given as goal

abbrev pub invariant-images : goal.invariant-images
invariant-images l = l.text ≡ images_text (take l.image-index l.images)
