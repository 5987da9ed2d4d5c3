pub mod SpawnerMemories
