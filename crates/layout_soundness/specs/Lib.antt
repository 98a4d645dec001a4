pub mod SoundLayout
