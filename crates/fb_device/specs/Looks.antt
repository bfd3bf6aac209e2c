-- What a device holds between two calls: its blocks, and its queues.
-- IEC 61499-1 edition 2, 5.2.2 (states of charts and values of variables); credit and depth are this project's profile.
use Rattle.std.specs.Prelude.{ℕ, ◌≡◌, ◌-◌, List, Some, length, slice_get}
use Rattle.fb_model.specs.System.{Device, Resource}
use Rattle.fb_model.specs.Wires.{Leaf}
use Rattle.fb_model.specs.Store.{Store}
use Rattle.fb_model.specs.Certificates.{Certificate, depth_of}
use Rattle.fb_model.specs.CertificateText.{names_in}
use Rattle.fb_model.specs.Devices.{Machine, held, places_row}
use Rattle.fb_chart.specs.Conditions.{leaf_state}
use Rattle.fb_device.specs.declared.look.Look.{Look}
use Rattle.fb_device.specs.declared.look.Fill.{Fill}

-- the block of a number: its path, its values, and what it remembers
pub record IsLook (all : List Leaf) (store : Store) (block : ℕ) (look : Look) : Type 0 where
  pub leaf : Leaf
  pub block_is : slice_get all block ≡ Some leaf
  pub path_is : names_in look.path.now ≡ leaf.path
  pub holds : store leaf.path ≡ leaf_state leaf.kind look.own.now look.issued.now look.condition

-- the queue of the resource of a number: its name, its entries, its depth, and the places that no open cause holds
pub record IsFill (cert : Certificate) (device : Device) (m : Machine) (resource : ℕ) (fill : Fill) : Type 0 where
  pub home : Resource
  pub home_is : slice_get device.resources resource ≡ Some home
  pub name : fill.name.now ≡ home.name
  pub pending : fill.pending ≡ length (m.queues resource)
  pub depth : fill.depth ≡ depth_of cert device resource
  pub free : fill.free ≡ depth_of cert device resource - held (places_row cert) (m.queues resource)
