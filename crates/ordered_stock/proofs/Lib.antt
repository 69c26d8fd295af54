pub mod KeyParts
pub mod OnShelf
pub mod LaidOut
pub mod Shelves
pub mod SoundOrdered
pub mod Stored
pub mod Asked
pub mod Moved
