use Rattle.std.proofs.Common.{subst}
use Rattle.fbr_files.specs.Outcomes.{IsReadFault}
use Rattle.fbr_words.specs.Requests.{service_of}
use Rattle.fbr_serve.proofs.Loaded.{files_loaded, first_unread, second_unread}
use Rattle.fbr_serve.proofs.serve.load_device.Goals as goal

pub returns-in-Ok-text : goal.returns-in-Ok-text
returns-in-Ok-text c = λ held_app held_cert app cert.
    files_loaded (service_of c.args.serve.now) c.args.boot held_app held_cert c.in-Ok.app.now c.in-Ok-text.cert.now c.loaded_texts.result (c.in-Ok.ensures held_app app.read) (c.in-Ok-text.ensures held_cert cert.read) c.loaded_texts.ensures

pub returns-in-Err-text : goal.returns-in-Err-text
returns-in-Err-text c = λ held_app held_cert app cert.
    second_unread (service_of c.args.serve.now) held_app held_cert c.in-Err-text.fault (subst (λ n. IsReadFault n c.in-Err-text.fault) cert.named (c.in-Err-text.ensures held_cert cert.read))

pub returns-in-Err : goal.returns-in-Err
returns-in-Err c = λ held_app held_cert app cert.
    first_unread (service_of c.args.serve.now) held_app held_cert c.in-Err.fault (subst (λ n. IsReadFault n c.in-Err.fault) app.named (c.in-Err.ensures held_app app.read))
